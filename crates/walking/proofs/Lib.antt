pub mod Walking
pub mod Rows
pub mod Long
pub mod Ends
