mod ChainFacts
mod LineFacts
mod NumberFacts
mod ValueFacts
pub mod LimitFacts
pub mod KeyFacts
pub mod ReadBack
pub mod ReadTypes
pub mod RetypedFacts
pub mod StrictFacts
pub mod SuggestFacts
pub mod NumeralFacts
pub mod ReadingFacts
pub mod ReportFacts
pub mod SplitFacts
pub mod ShownFacts
