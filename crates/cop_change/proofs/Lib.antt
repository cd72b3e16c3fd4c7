pub mod ApplyLemmas
pub mod ToldLemmas
