pub mod Storage
pub mod Comparisons
pub mod LotMaps
pub mod LotMarks
pub mod Laws
pub mod steps
