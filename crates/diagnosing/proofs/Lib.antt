-- What the proofs of several functions use, and the theorems.
pub mod Judging
pub mod Answers
pub mod Agree
pub mod Promises
