pub mod Cleared
pub mod Configures
