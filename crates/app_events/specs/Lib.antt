pub mod AppSpec
pub mod Laws
pub mod Pages
pub mod FixedSpec
pub mod States
pub mod Lemmas
pub mod Prelude
