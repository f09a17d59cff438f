pub mod Labelled
pub mod Ends
