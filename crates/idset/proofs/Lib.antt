pub mod Ascending
pub mod AtMost
pub mod Search
pub mod Walk
pub mod Buffers
pub mod Insertion
