pub mod Given
pub mod Pushing
pub mod Leaves
