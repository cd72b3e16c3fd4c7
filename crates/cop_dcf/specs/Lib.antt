pub mod Identifiers
pub mod Settings
pub mod Dcf
pub mod Changes
pub mod Pieces
pub mod Runs
pub mod Planned
pub mod Free
