pub mod Scripted
pub mod Theorems
pub mod Examples
