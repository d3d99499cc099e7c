pub mod Lines
pub mod Prelude
