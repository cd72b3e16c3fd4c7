pub mod EachLemmas
pub mod StartLemmas
pub mod TakeLemmas
pub mod DeviceLemmas
pub mod FrameLemmas
pub mod RowLemmas
pub mod CompleteLemmas
