pub mod Asking
pub mod Reaching
pub mod Surveying
