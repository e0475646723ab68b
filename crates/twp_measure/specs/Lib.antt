pub mod LengthTexts
pub mod LengthFaults
pub mod Areas
pub mod Laws
