pub mod PaddingLemmas
pub mod PlainLemmas
pub mod ToldLemmas
