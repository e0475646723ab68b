-- What private functions promise one another.
pub mod HalfMiles
pub mod Sides
pub mod Slips
pub mod EarlierRecords
pub mod NamedNumbers
