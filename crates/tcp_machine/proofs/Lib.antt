pub mod Unspoken
pub mod Beats
pub mod Transmission
pub mod States
mod Prelude
