pub mod Laws
pub mod Distinct
