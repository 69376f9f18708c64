pub mod Packet
pub mod Cause
pub mod Theorems
