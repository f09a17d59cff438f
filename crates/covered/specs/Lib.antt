pub mod Covered
pub mod Rooms
