pub mod WrittenParts
pub mod CanonicalText
pub mod SpellingLaws
pub mod ReadBack
pub mod PartBlocks
pub mod steps
