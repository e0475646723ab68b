pub mod ExceptingSteps
pub mod Plain
