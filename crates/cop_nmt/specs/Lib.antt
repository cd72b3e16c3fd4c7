pub mod States
pub mod Timers
