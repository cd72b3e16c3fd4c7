pub mod Identifiers
pub mod Answers
