-- The ways out of the calls on a table's states, and what answers mean.
pub mod Listed
pub mod Distinct
