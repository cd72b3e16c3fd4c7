pub mod Accepted
pub mod Fault
pub mod Identified
pub mod Kept
pub mod Meant
pub mod Spared
pub mod Standing
pub mod Taken
