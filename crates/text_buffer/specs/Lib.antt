pub mod Words
pub mod Prelude
