-- How a command for an image ends, by what is due for the shelf's files.
use Rattle.std.specs.Prelude.{◌≡◌, ◌≤◌, ◌⊎◌, ℕ, List, Option, None, Some, Result, Ok, Err}
use Rattle.uip_edge.specs.Prelude.{Rose, Files, ShelfView, SinkView, WorkView, WritesAll, WritesEnd, WritesPrefix}
use Rattle.site_image.specs.declared.site_error.SiteError.{SiteError}
use Rattle.file_tree.specs.Prelude.{FindsInFiles, LacksFile}
use Rattle.site_commands.specs.declared.halt.Halt.{Halt}
use Rattle.site_commands.specs.declared.halt.Halt.TheVariants as halt
use Rattle.site_commands.specs.declared.site_end.SiteEnd.{SiteEnd}
use Rattle.site_commands.specs.declared.site_end.SiteEnd.TheVariants as ends
use Rattle.site_commands.specs.Due.{Due}

-- this was due for the shelf's files, and its text was written in this way
abbrev pub Finishes : (Files → Option Due) → (SinkView → SinkView → List ℕ → Type 0) → WorkView → WorkView → Due → Type 0
Finishes due Wrote old new made =
    FindsInFiles due old.shelf.held made × Wrote old.sink new.sink made.text × (new.shelf.faults ≡ old.shelf.faults)

-- How the command ends: the whole text is written, with its first fault if there is one; or nothing; or a prefix of the text.
abbrev pub Ends : (Files → Option Due) → WorkView → WorkView → SiteEnd → Type 0
Ends due old new ends.Done = (text : List ℕ) × Finishes due WritesAll old new (record { text = text; fault = None })
Ends due old new (ends.Bad error) = (text : List ℕ) × Finishes due WritesAll old new (record { text = text; fault = Some error })
Ends due old new ends.ShelfFault =
    (Rose old.shelf.faults new.shelf.faults ⊎ LacksFile due old.shelf.held) × (old.shelf.faults ≤ new.shelf.faults)
    × (new.sink ≡ old.sink)
Ends due old new ends.WriteFault = (made : Due) × Finishes due WritesPrefix old new made
Ends due old new ends.NoMemory = new ≡ old

-- what was made of the shelf's files, or why there is nothing
abbrev pub Makes : (Files → Option Due) → ShelfView → ShelfView → Result Due Halt → Type 0
Makes due old new (Ok made) = FindsInFiles due old.held made × (new.faults ≡ old.faults)
Makes due old new (Err halt.Shelf) = (Rose old.faults new.faults ⊎ LacksFile due old.held) × (old.faults ≤ new.faults)
Makes due old new (Err halt.NoMemory) = new.faults ≡ old.faults

-- the end of a command whose text was written
abbrev pub end_of : Option SiteError → SiteEnd
end_of None = ends.Done
end_of (Some error) = ends.Bad error

-- what was written of what was made, and the end
abbrev pub WritesMade : Result Due Halt → SinkView → SinkView → SiteEnd → Type 0
WritesMade (Ok made) old new end = WritesEnd (end_of made.fault) ends.WriteFault old new made.text end
WritesMade (Err halt.Shelf) old new end = (end ≡ ends.ShelfFault) × (new ≡ old)
WritesMade (Err halt.NoMemory) old new end = (end ≡ ends.NoMemory) × (new ≡ old)

-- the end is the one that is due, or memory ran out
abbrev pub EndsAsDue : (Files → Option Due) → Option Files → SiteEnd → Type 0
EndsAsDue due held end = (end ≡ ends.NoMemory) ⊎ ((made : Due) × FindsInFiles due held made × (end ≡ end_of made.fault))
