pub mod Spellings
pub mod Values
pub mod Words
pub mod Lemmas
pub mod Prelude
