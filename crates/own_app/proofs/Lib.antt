pub mod CaptureLaws
pub mod OwnLines
mod Prelude
