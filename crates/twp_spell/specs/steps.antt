pub mod Spelling
pub mod SpellingSteps
pub mod Gathering
pub mod OpenHalves
