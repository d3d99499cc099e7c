pub mod PlaceLemmas
pub mod LaneLemmas
pub mod OpenLemmas
pub mod StartLemmas
pub mod PieceLemmas
mod WordLemmas
mod Rows
mod Prelude
