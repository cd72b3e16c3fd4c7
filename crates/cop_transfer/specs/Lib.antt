pub mod Exchanging
pub mod Carrying
pub mod Transferring
pub mod Laws
pub mod ReadingEach
