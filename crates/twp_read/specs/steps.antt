pub mod Usual
pub mod TokenSteps
pub mod BadTokens
pub mod Watching
