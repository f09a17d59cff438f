pub mod Numbers
pub mod Winners
