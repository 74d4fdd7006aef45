mod EntryFacts
mod LabelFacts
pub mod NameFacts
pub mod NumberFacts
mod OneList
mod SelectedFacts
mod Separated
mod WordFacts
