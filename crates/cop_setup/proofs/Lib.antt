pub mod InTurn
pub mod CobIdLemmas
pub mod OffLemmas
pub mod PayloadLemmas
pub mod NumberLemmas
pub mod TryLemmas
