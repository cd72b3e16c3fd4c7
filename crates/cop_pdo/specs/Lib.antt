pub mod Payload
pub mod Bits
pub mod CobIds
pub mod Sent
