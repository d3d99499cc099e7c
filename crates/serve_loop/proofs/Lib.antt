pub mod AddrLaws
pub mod ByteLaws
pub mod EventLaws
pub mod PrefixLaws
pub mod NodeLaws
pub mod PaceLaws
pub mod RunLaws
pub mod ServeLaws
pub mod SlipLaws
pub mod SlipServeLaws
pub mod TakenLaws
mod Prelude
