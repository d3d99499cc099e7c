-- The names of the definitions of this crate that other files cite, passed on from one place. Declares nothing.
pub use Rattle.site_commands.specs.Due.{Due, MadeOfFault, MakesImage, check_due, due_of, pack_due, page_due, upgrade_due}
pub use Rattle.site_commands.specs.Ending.{Ends, EndsAsDue, Makes, WritesMade, end_of}
pub use Rattle.site_commands.specs.Gathering.{Gathers, IsTooLong, NamedContent, WasRead, list_of, with_first}
unfoldable pub use Rattle.site_commands.specs.Gathering.{gathered}
