pub mod Boards
pub mod Makes
pub mod Lent
pub mod Meters
pub mod Traced
