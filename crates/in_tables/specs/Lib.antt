pub mod Tables
pub mod Latest
pub mod Theorems
