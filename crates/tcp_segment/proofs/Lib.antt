pub mod Back
pub mod Passing
pub mod Putting
pub mod Rows
mod Prelude
