pub mod Cells
pub mod Theorems
