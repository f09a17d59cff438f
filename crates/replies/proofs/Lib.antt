-- What the proofs of several functions use.
pub mod Items
pub mod Replying
