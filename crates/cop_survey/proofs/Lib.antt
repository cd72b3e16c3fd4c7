pub mod AskingLemmas
pub mod ReachingLemmas
pub mod SurveyLemmas
