pub mod Accepted
pub mod Found
pub mod Answers
