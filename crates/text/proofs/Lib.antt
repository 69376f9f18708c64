pub mod Appending
pub mod Spelling
pub mod Worked
pub mod Theorems
