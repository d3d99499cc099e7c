pub mod Options
pub mod ReadBack
pub mod Received
pub mod Segments
pub mod Sent
pub mod ConstantValues
pub mod Prelude
