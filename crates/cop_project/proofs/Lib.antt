pub mod Folders
pub mod Lists
pub mod Rates
pub mod Tables
pub mod Texts
