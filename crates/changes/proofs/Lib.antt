pub mod Keep
pub mod Asked
pub mod Room
pub mod Resources
pub mod Gathering
pub mod Picking
pub mod Marking
