pub mod Exchange
pub mod InPlace
pub mod Rows
pub mod Sums
mod Prelude
