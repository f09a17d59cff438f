pub mod Finding
pub mod Room
