-- What the proofs of several functions use, and the theorems.
pub mod ShapeLaws
pub mod Shaped
pub mod ReadLaws
pub mod Each
