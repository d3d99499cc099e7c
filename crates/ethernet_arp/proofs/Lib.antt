pub mod ByteLaws
pub mod Bytes
pub mod LearningLaws
pub mod LineLaws
pub mod PartLaws
pub mod Rows
pub mod SendingLaws
pub mod ServingLaws
pub mod TableLaws
pub mod TakenLaws
pub mod SendableLaws
mod Prelude
