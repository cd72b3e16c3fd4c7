pub mod Checks
pub mod Laws
pub mod Telling
pub mod Verifying
