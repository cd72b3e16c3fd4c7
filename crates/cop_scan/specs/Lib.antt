pub mod Laws
pub mod Scanning
