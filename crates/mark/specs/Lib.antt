pub mod Limits
pub mod Marks
pub mod Joins
pub mod YesNo
pub mod Tail
