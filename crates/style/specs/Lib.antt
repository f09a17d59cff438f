pub mod Entries
pub mod Checks
pub mod Looking
