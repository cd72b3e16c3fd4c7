pub mod AnswerLemmas
pub mod RateAnswers
pub mod IdentifierLemmas
