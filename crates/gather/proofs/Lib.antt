pub mod Filling
pub mod Ids
pub mod Opening
pub mod Closing
