pub mod ByteLemmas
pub mod NodeLemmas
