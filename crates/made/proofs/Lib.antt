pub mod Distinct
pub mod Accepting
pub mod Pushed
pub mod Promises
pub mod Calls
