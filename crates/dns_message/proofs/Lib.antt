pub mod DotLaws
pub mod QueryLaws
pub mod RecordLaws
pub mod Rows
pub mod SpelledLaws
mod Prelude
