-- The theorem.
pub mod Promises
