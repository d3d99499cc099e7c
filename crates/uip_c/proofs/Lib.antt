pub mod FrameLaws
pub mod OnWire
pub mod HandleLaws
pub mod Opened
pub mod Taking
pub mod Words
mod Prelude
