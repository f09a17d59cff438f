-- What the proofs of several functions use, and the theorems.
pub mod RowLaws
pub mod CheckLaws
pub mod WeighLaws
pub mod Saturation
pub mod Distinct
