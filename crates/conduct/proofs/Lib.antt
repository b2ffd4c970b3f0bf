pub mod OneMore
pub mod Machine
pub mod CellsAfter
pub mod Counted
pub mod SoFar
pub mod Told
pub mod Schedules
pub mod Apart
