pub mod Readable
pub mod Theorems
