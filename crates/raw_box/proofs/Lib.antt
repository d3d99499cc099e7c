pub mod Words
pub mod Consuming
pub mod Moving
mod Prelude
