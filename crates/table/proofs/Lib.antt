-- What the proofs of several functions and of other crates use.
pub mod Selectors
pub mod Same
pub mod Shaped
pub mod Roots
pub mod ShapeLaws
pub mod Subjects
pub mod Chains
pub mod Rooms
