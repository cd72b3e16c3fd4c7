pub mod LawLemmas
pub mod VerifyLemmas
