pub mod ConstantValues
pub mod Handles
pub mod Results
pub mod Prelude
