pub mod Timers
pub mod Step
pub mod Turn
pub mod Letter
