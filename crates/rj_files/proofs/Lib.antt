pub mod DraftFacts
pub mod LetterFacts
pub mod ListFacts
pub mod SuggestedFacts
pub mod TextFacts
pub mod ToldFacts
pub mod UnsuggestedFacts
