pub mod Meaning
pub mod Verdicts
pub mod Theorems
