pub mod Stepped
pub mod Theorems
