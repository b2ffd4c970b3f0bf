pub mod Words
pub mod Growing
pub mod Standing
pub mod Tables
pub mod Loading
