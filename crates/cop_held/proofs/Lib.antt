pub mod MapLemmas
pub mod RedatedLemmas
pub mod PlanLemmas
pub mod CauseLemmas
