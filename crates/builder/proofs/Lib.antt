-- The ways out of a push, and that its contract determines it.
pub mod Pushes
