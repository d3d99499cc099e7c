-- What serving a line with the site that the words name does to shelf, line and output.
use Rattle.std.specs.Prelude.{◌≡◌, ◌⊎◌, ℕ, List, Some, Result, Ok, Err}
use Rattle.site_image.specs.Prelude.{File}
use Rattle.site_image.specs.declared.site_error.SiteError.{SiteError}
use Rattle.file_tree.specs.declared.load_fault.LoadFault.{LoadFault}
use Rattle.file_tree.specs.Prelude.{FailsToOpen, FindsInFiles, site_read}
use Rattle.uip_edge.specs.Prelude.{Files, IsUnfailed, LineUnfailed, Outside, line_in}
use Rattle.uipd.specs.Serving.{ServeRuns}
use Rattle.uipd.specs.Statuses.{status_of_fault}
use Rattle.uipd.specs.declared.words.ServedLine.{ServedLine}
use Rattle.uipd.specs.declared.status.Status.{Status}
use Rattle.uipd.specs.declared.status.Status.TheVariants as status

-- The site with the name was opened, and this was done with its files.
pub record WithSite (site : List ℕ) (old new : Outside) (Done : List File → Type 0) : Type 0 where
  pub files : List File
  pub read : FindsInFiles (site_read site) old.shelf.held (Ok files)
  pub shelf : new.shelf ≡ old.shelf
  pub done : Done files

-- There is no site with the name, for this reason; the line and its output are unchanged.
pub record WithoutSite (site : List ℕ) (old new : Outside) (result : Status) : Type 0 where
  pub fault : LoadFault
  pub reported : result ≡ status_of_fault fault
  pub fails : FailsToOpen site old.shelf.held old.shelf.faults new.shelf.faults fault
  pub held : new.shelf.held ≡ old.shelf.held
  pub line : line_in new ≡ line_in old

-- The line is served with the site of a name.
abbrev pub SiteServes : List ℕ → ServedLine → Outside → Outside → Status → Type 0
SiteServes site line old new result =
    WithSite site old new (λ files. ServeRuns files line (line_in old) (line_in new) result) ⊎ WithoutSite site old new result

-- no call failed
pub record IsUndisturbed (old new : Outside) : Type 0 where
  pub shelf : IsUnfailed old.shelf.faults new.shelf.faults
  pub line : LineUnfailed (line_in old) (line_in new)
