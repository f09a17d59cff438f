pub mod Putting
pub mod Cursors
pub mod Walking
pub mod Range
pub mod Advanced
