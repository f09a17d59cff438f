pub mod Opened
pub mod Making
pub mod Memory
