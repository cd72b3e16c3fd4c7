pub mod PartLemmas
pub mod ConsumerLemmas
pub mod RangeLemmas
pub mod NamedLemmas
pub mod LackingLemmas
pub mod RowsKept
pub mod DeviceLemmas
pub mod SettingLemmas
