pub mod Schedules
pub mod ByRule
pub mod Moving
pub mod Movements
