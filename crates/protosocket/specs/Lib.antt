pub mod Line
pub mod Lemmas
pub mod Prelude
