pub mod EndingFacts
pub mod JoinedFacts
pub mod KeptFacts
pub mod HelpWords
pub mod CommandWalk
pub mod CommandDefaults
pub mod TaskFacts
pub mod TownshipWords
