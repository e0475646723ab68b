-- What private functions promise one another.
pub mod Marking
pub mod Fields
