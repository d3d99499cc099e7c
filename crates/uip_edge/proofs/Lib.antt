pub mod Breaking
pub mod Runs
pub mod Reported
pub mod Turns
pub mod Writes
mod Prelude
