pub mod Width
pub mod Settings
pub mod InTurn
pub mod Offs
pub mod Trying
pub mod Asking
