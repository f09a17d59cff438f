pub mod Tables
pub mod Shape
pub mod Entering
pub mod Calls
pub mod Lent
