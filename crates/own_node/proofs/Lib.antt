pub mod Containing
pub mod Parts
pub mod Slots
pub mod Tickets
pub mod WrittenLaws
pub mod GivenUp
pub mod GuardedPorts
pub mod Alone
pub mod InPair
pub mod ReadingLaws
pub mod CaptureLaws
pub mod OpenPorts
mod Prelude
