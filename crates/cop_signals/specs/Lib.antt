pub mod Signals
pub mod Decoding
pub mod Takers
pub mod Bus
