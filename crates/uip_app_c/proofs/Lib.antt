pub mod Words
pub mod AppLaws
pub mod AppKeepLaws
mod Prelude
