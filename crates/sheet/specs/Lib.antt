pub mod Layout
pub mod Sheets
pub mod Shape
pub mod Laying
