pub mod Parts
pub mod Arps
pub mod Lengths
pub mod Theorems
