pub mod Reading
pub mod Session
