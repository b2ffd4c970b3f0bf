pub mod Stops
pub mod Loading
pub mod Touching
pub mod Arms
