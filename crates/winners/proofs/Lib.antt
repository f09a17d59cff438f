pub mod Reading
pub mod Finding
pub mod Turns
pub mod Distinct
