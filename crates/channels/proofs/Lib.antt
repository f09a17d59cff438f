pub mod Sets
pub mod Joining
pub mod Union
pub mod Distinct
