pub mod Held
pub mod Causes
