pub mod Ages
pub mod Beats
pub mod ConstantValues
pub mod Prelude
