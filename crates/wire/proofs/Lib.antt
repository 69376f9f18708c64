pub mod Tested
pub mod Checks
pub mod Refusals
pub mod Theorems
