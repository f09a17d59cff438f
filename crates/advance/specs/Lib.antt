pub mod Advancing
pub mod Collecting
