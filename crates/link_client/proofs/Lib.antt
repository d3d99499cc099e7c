pub mod Rows
pub mod Taking
mod Prelude
