pub mod Coverings
