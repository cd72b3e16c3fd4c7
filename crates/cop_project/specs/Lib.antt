pub mod Numbers
pub mod Lines
pub mod Project
pub mod Refused
pub mod Words
