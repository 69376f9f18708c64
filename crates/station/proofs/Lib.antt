pub mod Arrays
pub mod Acted
pub mod Made
