pub mod Tags
pub mod Rows
pub mod Checks
pub mod Matching
pub mod Diagnosing
pub mod Weighing
