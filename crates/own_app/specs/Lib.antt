pub mod OwnSpec
pub mod Ports
pub mod OwnRepresents
pub mod OwnLines
pub mod OwnTraces
pub mod ConstantValues
pub mod Lemmas
pub mod Prelude
