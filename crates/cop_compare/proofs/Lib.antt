pub mod IdentifierLemmas
pub mod LawLemmas
pub mod OneDictionary
pub mod OneList
pub mod Walk
