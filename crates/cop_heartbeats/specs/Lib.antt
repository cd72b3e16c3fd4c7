pub mod Attending
