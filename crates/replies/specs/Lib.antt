pub mod Walking
pub mod Memory
pub mod Steps
