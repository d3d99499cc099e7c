pub mod Written
pub mod Messages
pub mod Capturing
pub mod Ports
pub mod Prelude
