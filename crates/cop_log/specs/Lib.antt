pub mod Log
pub mod Watching
pub mod Watchers
pub mod Reading
pub mod Bounds
pub mod Reports
