pub mod CopyFacts
pub mod LineFacts
pub mod NumberFacts
pub mod RefusalFacts
