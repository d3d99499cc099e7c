-- Proofs about the definitions of this crate. They need not be read.
pub mod Deciding
pub mod Growing
pub mod WebLaws
