pub mod Items
pub mod Said
