-- The names of the definitions of this crate that other files cite, passed on from one place. Declares nothing.
pub use Rattle.desk_laws.specs.DeskWorlds.{DeskMarksRepeats, DeskOneSegment, DeskRepeatsSameBytes}
pub use Rattle.desk_laws.specs.DeskWorlds.{DeskSendsAgain, DeskServes, IsReachedByDesk, SessionsAreShort}
pub use Rattle.desk_laws.specs.Worked.{AreWorkedWorlds}
