pub mod BlankLemmas
pub mod KeptLemmas
