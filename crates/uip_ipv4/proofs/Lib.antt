pub mod Back
pub mod Facts
pub mod Rows
mod Prelude
