pub mod Texts
pub mod Sound
