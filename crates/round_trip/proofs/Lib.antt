pub mod RoundTrip
pub mod Theorems
