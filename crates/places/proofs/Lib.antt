pub mod Finding
pub mod Parts
pub mod Records
pub mod Words
pub mod Beside
pub mod Events
pub mod Theorems
