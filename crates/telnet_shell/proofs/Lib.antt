pub mod WorkedSessions
pub mod Opening
pub mod Advancing
pub mod Representing
pub mod Opened
pub mod Asking
pub mod DeskParts
pub mod TwoApplications
pub mod DeskSteady
pub mod SessionBytes
pub mod DeskLines
pub mod SessionLaws
pub mod ExactLaws
pub mod SequenceLaws
pub mod TwoBytes
mod Prelude
