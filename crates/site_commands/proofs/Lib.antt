pub mod EndLaws
pub mod GatherLaws
pub mod PageEnds
mod Prelude
