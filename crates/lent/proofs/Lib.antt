pub mod All
pub mod Refusals
pub mod Answers
pub mod Copying
pub mod Placing
pub mod Pool
