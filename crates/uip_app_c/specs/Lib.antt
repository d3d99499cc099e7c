pub mod Kept
pub mod Holding
pub mod Ports
pub mod Handles
pub mod AppCalls
pub mod AppPromise
pub mod Prelude
