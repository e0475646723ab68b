-- What private functions promise one another.
pub mod Sharing
pub mod ListDoubts
