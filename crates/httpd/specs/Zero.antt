-- What a target requests.
use Rattle.std.specs.Prelude.{◌≡◌, List, Option, None, Some}
use Rattle.file_tree.specs.declared.file_id.FileId.{FileId}
use Rattle.site_image.specs.Prelude.{File}
use Rattle.web_pages.specs.Prelude.{Wanted, Refused}
use Rattle.httpd.specs.Reception.{IsFileAsked}

-- the file found, or nothing
abbrev pub IsAsked : List File → Wanted → Option (Option FileId) → Type 0
IsAsked files asked None = asked ≡ Refused
IsAsked files asked (Some found) = IsFileAsked files asked found
