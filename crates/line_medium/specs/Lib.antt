pub mod Media
pub mod Prelude
