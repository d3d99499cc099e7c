pub mod Udp
pub mod Prelude
