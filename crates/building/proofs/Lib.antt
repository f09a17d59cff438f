-- The ways out of `build`, and what its answer means.
pub mod Builds
pub mod Answers
pub mod Distinct
