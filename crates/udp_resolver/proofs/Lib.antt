pub mod AskLaws
pub mod EndLaws
pub mod EventLaws
pub mod FateLaws
pub mod ItemLaws
pub mod QueryLaws
pub mod ResolveLaws
pub mod RunLaws
pub mod StepLaws
pub mod ReportedLaws
pub mod FromLineLaws
mod Prelude
