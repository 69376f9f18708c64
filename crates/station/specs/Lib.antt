pub mod Station
pub mod Making
pub mod Acting
