pub mod Through
pub mod ToldLemmas
pub mod WordLemmas
pub mod ShownLemmas
pub mod BookLemmas
pub mod PieceLemmas
