-- What the proofs of several functions use.
pub mod Rules
pub mod Writing
