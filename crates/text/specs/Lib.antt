pub mod Appended
pub mod Digits
pub mod Theorems
