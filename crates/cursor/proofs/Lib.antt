pub mod Yielding
pub mod Distinct
