pub mod Blanks
pub mod Numerals
pub mod Amounts
pub mod Words
pub mod Names
pub mod Keys
pub mod Kinds
pub mod Typed
