pub mod LineLemmas
pub mod EveryLemmas
