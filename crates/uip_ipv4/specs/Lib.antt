pub mod Head
pub mod Prelude
