pub mod Made
pub mod Pushed
