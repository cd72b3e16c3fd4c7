pub mod CommissioningLemmas
pub mod RefrainingLemmas
pub mod MeantLemmas
pub mod ToldLemmas
pub mod FailureLemmas
