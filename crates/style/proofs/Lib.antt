pub mod CheckLaws
pub mod LookLaws
pub mod Distinct
