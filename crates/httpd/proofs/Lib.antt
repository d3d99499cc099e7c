pub mod Sizes
pub mod Seeing
pub mod Scripts
pub mod Threads
pub mod Walking
pub mod Finding
pub mod Words
pub mod Requesting
pub mod Representing
pub mod Reporting
pub mod Asking
pub mod Compacting
pub mod ZeroWriting
pub mod ZeroAsking
mod Prelude
