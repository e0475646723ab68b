pub mod Excerpts
pub mod Messages
pub mod Shown
pub mod Signs
pub mod Spots
pub mod steps
