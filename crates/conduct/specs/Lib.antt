pub mod Calls
pub mod Rules
pub mod Histories
pub mod Runs
