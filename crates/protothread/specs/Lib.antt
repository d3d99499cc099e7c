pub mod Child
pub mod Filling
pub mod Prelude
