pub mod Laws
pub mod Shifting
