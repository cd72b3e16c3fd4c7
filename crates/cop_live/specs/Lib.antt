pub mod Awaiting
pub mod Log
pub mod Nodes
pub mod Opening
pub mod Flags
pub mod Listening
pub mod Approach
pub mod Session
