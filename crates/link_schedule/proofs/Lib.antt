pub mod Clients
pub mod Keeping
pub mod Kept
pub mod Lines
pub mod NoForm
pub mod Worked
mod Prelude
