pub mod Addr
pub mod Checksum
pub mod Fields
pub mod Numbers
pub mod Numerals
pub mod Sums
pub mod ConstantValues
pub mod Prelude
