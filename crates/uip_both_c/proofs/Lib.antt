pub mod BothLaws
pub mod BothKeepLaws
pub mod Opened
pub mod PageNumbers
pub mod Words
mod Prelude
