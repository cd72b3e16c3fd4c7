pub mod Boots
pub mod Commanding
pub mod Reasons
pub mod Scanning
pub mod Transferring
pub mod Verifying
pub mod Watching
