pub mod Ascii
pub mod Copies
pub mod DecoderLaws
pub mod PartLaws
pub mod PlainLaws
mod Rows
pub mod TextFrames
pub mod TextLaws
pub mod FrameLaws
pub mod Lanes
pub mod TextTable
pub mod Words
mod Prelude
