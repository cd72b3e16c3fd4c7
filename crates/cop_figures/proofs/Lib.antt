pub mod ReasonLemmas
pub mod LoadLemmas
pub mod FrameLemmas
pub mod BelowLemmas
pub mod TimelineLemmas
pub mod DelayLemmas
pub mod UnsortedLemmas
