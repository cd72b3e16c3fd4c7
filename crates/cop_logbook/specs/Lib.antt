pub mod ErrorFrames
pub mod Told
pub mod Words
pub mod Books
pub mod Pieces
