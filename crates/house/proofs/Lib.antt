pub mod Walk
pub mod Never
pub mod Front
pub mod Starting
pub mod Stages
