pub mod Ladders
pub mod Rules
