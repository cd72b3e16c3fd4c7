pub mod Start
pub mod Devices
pub mod Offers
pub mod Senders
pub mod Frames
pub mod Rows
