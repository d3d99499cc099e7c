pub mod Client
pub mod State
pub mod Calls
pub mod Prelude
