-- Proofs about the definitions of this crate. They need not be read.
pub mod Reception
