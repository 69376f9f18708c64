pub mod Layout
pub mod Place
pub mod Theorems
