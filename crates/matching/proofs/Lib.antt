-- What the proofs of several functions use, and the theorems.
pub mod Ways
pub mod Answers
pub mod Fitting
