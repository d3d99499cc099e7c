pub mod Decoding
pub mod Frames
pub mod Steps
pub mod Text
pub mod Prelude
