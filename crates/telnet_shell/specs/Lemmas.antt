-- Proofs about the definitions of this crate. They need not be read.
pub mod DeskLaws
pub mod Growing
pub mod SameLeft
pub mod ShellLaws
pub mod Speaking
