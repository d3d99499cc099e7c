pub mod Says
pub mod FixedSends
mod Prelude
