pub mod Marks
pub mod Loops
pub mod Calls
pub mod Distinct
pub mod Sets
