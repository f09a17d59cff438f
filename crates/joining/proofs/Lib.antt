pub mod Refusing
pub mod Largest
pub mod Sums
