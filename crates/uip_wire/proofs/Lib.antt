pub mod Folding
pub mod NumeralLaws
pub mod Pieces
pub mod Rows
pub mod Wide
pub mod Words
pub mod Writing
mod Prelude
