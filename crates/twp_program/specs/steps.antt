pub mod Parses
pub mod CommandParts
