pub mod Found
pub mod Bounds
pub mod Limits
pub mod PageLaws
pub mod Upgrades
pub mod ByteLaws
pub mod WordLaws
pub mod ZeroLaws
mod WorkedRequests
mod WorkedPages
pub mod OwnState
mod Prelude
