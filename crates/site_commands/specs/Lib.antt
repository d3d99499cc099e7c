pub mod Gathering
pub mod Due
pub mod Ending
pub mod Prelude
