pub mod ReadingLemmas
pub mod SessionLemmas
