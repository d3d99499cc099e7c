pub mod AnswerLaws
pub mod BringLaws
pub mod CallLaws
pub mod FrameLaws
pub mod HandLaws
pub mod KeepLaws
pub mod Answering
pub mod NumberLaws
pub mod PartLaws
pub mod SendLaws
pub mod WebLaws
pub mod QueryLaws
mod QueryRows
mod Prelude
