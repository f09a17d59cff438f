-- The changes of the states, the verdicts by each way through the code, and what the answers tell.
pub mod Listed
pub mod Verdicts
pub mod Written
pub mod Distinct
