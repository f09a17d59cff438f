pub mod Leading
pub mod Alike
pub mod Hitting
pub mod Following
