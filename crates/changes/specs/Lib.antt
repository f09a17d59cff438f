pub mod Changes
pub mod Within
pub mod Asked
