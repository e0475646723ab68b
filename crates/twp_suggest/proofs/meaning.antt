pub mod TextFacts
pub mod LandFacts
pub mod NamedFacts
pub mod ClearFacts
pub mod ExceptingFacts
