pub mod Pasting
pub mod Filling
pub mod Packing
pub mod Joining
pub mod Digits
mod Prelude
