pub mod Calling
pub mod Functions
pub mod Places
pub mod Directives
pub mod Pieces
pub mod Prelude
