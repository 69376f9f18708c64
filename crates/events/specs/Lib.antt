pub mod Lists
pub mod Result
pub mod Events
pub mod Turned
