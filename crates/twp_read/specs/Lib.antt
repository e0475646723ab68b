pub mod TextFaults
pub mod Laws
pub mod Doubts
pub mod steps
