pub mod DeskWorlds
pub mod ShortSessions
pub mod DeskSpeakers
pub mod DeskBytes
pub mod Worked
mod Prelude
