pub mod Concise
pub mod Reading
