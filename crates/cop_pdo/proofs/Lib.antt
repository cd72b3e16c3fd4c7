pub mod ReadingLemmas
pub mod PayloadLemmas
pub mod BitLemmas
pub mod MovingLemmas
pub mod UnpackLemmas
pub mod LawLemmas
pub mod SentLemmas
pub mod FittingLemmas
