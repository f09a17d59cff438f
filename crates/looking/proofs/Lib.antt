-- What a table in shape brings, one state's verdict, and what the answers tell.
pub mod Listed
pub mod Verdicts
pub mod Winners
pub mod Looking
pub mod Distinct
