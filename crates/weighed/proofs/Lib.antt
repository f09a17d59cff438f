-- What the proofs of several functions use, and the theorem.
pub mod Sums
pub mod Saturation
