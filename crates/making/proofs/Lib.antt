pub mod Taking
pub mod Feeding
