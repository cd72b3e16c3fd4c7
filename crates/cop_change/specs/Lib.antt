pub mod Applied
pub mod Told
