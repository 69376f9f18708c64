pub mod Check
pub mod Reading
pub mod Refusal
pub mod Theorems
