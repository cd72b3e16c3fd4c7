pub mod Differences
pub mod Identifiers
pub mod Laws
pub mod Steps
