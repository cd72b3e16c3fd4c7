pub mod Stated
pub mod Listed
pub mod Spelled
pub mod Records
pub mod Compact
pub mod Hazards
pub mod Every
pub mod Counted
