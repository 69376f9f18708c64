pub mod Cases
pub mod Theorems
