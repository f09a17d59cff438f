pub mod Rules
pub mod Steps
pub mod Requiring
pub mod Entries
