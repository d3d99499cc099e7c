-- What the connections of the web server share.
use Rattle.std.specs.Prelude.{◌≡◌, ℕ, List, length}
use Rattle.file_tree.specs.Prelude.{SiteContent, files_of}

pub record WebContent : Type 0 where
  pub site : SiteContent
  pub hits : List ℕ

-- There is one hit count for each file.
abbrev pub IsCounted : SiteContent → List ℕ → Type 0
IsCounted site hits = length hits ≡ length (files_of site)
