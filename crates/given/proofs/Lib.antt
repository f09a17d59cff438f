-- What the proofs of several functions use, and what an accepted push satisfies.
pub mod Counting
pub mod Accepted
pub mod Rows
