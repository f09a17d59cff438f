pub mod Decimal
pub mod Saying
