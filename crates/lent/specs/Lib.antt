pub mod All
pub mod Refusals
pub mod Pool
