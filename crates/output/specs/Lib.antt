pub mod Output
pub mod Theorems
