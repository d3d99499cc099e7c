pub mod Working
pub mod Keeping
pub mod WorkedWorkload
mod Prelude
