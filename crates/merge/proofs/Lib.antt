pub mod Joined
pub mod Storing
