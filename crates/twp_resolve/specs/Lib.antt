pub mod PlaceFaults
pub mod SharedLand
pub mod Laws
pub mod DescribedLand
pub mod steps
