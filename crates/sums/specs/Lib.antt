pub mod Sum
pub mod Number
pub mod Total
pub mod Theorems
