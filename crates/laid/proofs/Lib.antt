pub mod Frame
pub mod Reading
pub mod Shaping
pub mod Emptied
pub mod Held
