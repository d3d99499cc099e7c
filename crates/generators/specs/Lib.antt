pub mod Captures
pub mod Parts
pub mod Short
pub mod Text
pub mod Packed
pub mod ScriptFunctions
pub mod Lemmas
pub mod Prelude
