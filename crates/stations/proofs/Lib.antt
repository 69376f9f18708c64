pub mod Theorems
pub mod Placed
