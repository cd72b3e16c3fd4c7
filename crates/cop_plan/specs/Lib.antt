pub mod Fillings
pub mod Orders
pub mod Values
pub mod Caps
pub mod Margins
pub mod Planned
pub mod Plans
pub mod Found
