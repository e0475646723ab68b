-- What private functions promise one another.
pub mod BasisSteps
pub mod Filling
pub mod LotSteps
pub mod Noting
pub mod PartSteps
pub mod Plain
pub mod Suggesting
pub mod DesignationSteps
pub mod SplitSteps
pub mod LandSteps
