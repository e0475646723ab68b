pub mod ResolvingSteps
pub mod SharingSteps
