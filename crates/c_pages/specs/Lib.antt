pub mod Opening
pub mod Rows
pub mod Prelude
