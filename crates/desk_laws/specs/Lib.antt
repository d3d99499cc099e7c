pub mod DeskWorlds
pub mod Worked
pub mod Prelude
