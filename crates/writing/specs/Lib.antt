pub mod Frame
pub mod Arp
pub mod Writing
pub mod Given
