pub mod Pieces
pub mod Never
pub mod Alike
pub mod Rooms
