-- The names of the definitions of this crate that other files cite, passed on from one place. Declares nothing.
pub use Rattle.file_tree.specs.Answers.{Fails, Gives}
pub use Rattle.file_tree.specs.Index.{AreMeasured, AreWithin, IsBefore, IsIndex, IsOrder, IsSlot, id_at, name_at, name_of}
pub use Rattle.file_tree.specs.Loading.{HasLoadCause, HoldsFile, Loads}
pub use Rattle.file_tree.specs.Opening.{FailsToOpen, FindsInFiles, LacksFile, Opens, site_read}
pub use Rattle.file_tree.specs.Packing.{file_of, listed, listed_fault, place_after}
unfoldable pub use Rattle.file_tree.specs.Packing.{named, packed}
pub use Rattle.file_tree.specs.Reading.{IsEntry, place_by}
pub use Rattle.file_tree.specs.Site.{AreApart, AreGood, HasSoundScripts, IsLoaded, SiteContent, files_of, image_files}
pub use Rattle.file_tree.specs.Upgrading.{KindContent, chosen, retyped, upgraded}
unfoldable pub use Rattle.file_tree.specs.Upgrading.{second_image}
