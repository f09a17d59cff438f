-- The ways out of entering, and what its answer means.
pub mod Entered
pub mod Fronts
pub mod Answers
