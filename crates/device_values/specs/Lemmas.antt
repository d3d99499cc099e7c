-- Lemmas about the definitions of this crate; a reader need not believe them.
pub mod Laws
