pub mod Asking
pub mod Questions
pub mod Telling
