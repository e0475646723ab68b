pub mod Tables
pub mod LineFaults
pub mod PassedFaults
pub mod WrittenFields
