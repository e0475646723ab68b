pub mod Numerals
pub mod LengthFacts
pub mod TextFacts
pub mod WrittenLengths
pub mod RoundingFacts
