pub mod Winners
pub mod Best
pub mod Next
