-- What the proofs of several functions use, and the theorems.
pub mod Answers
pub mod Distinct
pub mod Readers
