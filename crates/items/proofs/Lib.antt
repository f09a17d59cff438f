pub mod Laws
pub mod Saying
pub mod Determined
