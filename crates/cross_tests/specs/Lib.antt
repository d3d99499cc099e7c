pub mod CounterSpec
pub mod Lemmas
pub mod Prelude
