pub mod LandFacts
mod PlaceFacts
pub mod ReadingFacts
pub mod CutFacts
pub mod ClosedFacts
pub mod RepeatFacts
pub mod WordFacts
mod PlainFacts
mod WordLetters
mod PlainBytes
mod ToldFacts
