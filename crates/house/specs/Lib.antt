pub mod House
pub mod Memory
