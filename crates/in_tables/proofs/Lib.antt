pub mod Tables
pub mod Theorems
pub mod Keeping
pub mod Staying
pub mod Begun
pub mod ReadBack
