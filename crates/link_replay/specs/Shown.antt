-- What a world of the code shows by itself, also after an allocation failed in it.
use Rattle.std.specs.Io.KnownBytes.{Appends}
use Rattle.std.specs.Prelude.{◌≡◌, ℕ, ◌++◌, Bool, false, List, [], Option}
use Rattle.link_replay.specs.Plain.{CodeSide}
use Rattle.link_replay.specs.Report.{ShownSide}

-- what a report and a summary show of a client of the code
abbrev pub code_side_shown : CodeSide → ShownSide
code_side_shown side = record { state = side.client.state; received = side.received; first_stale = side.first_stale }

-- Some text was appended; none if not everything is shown.
pub record AppendsShown (show : Bool) (old new : Option (List ℕ)) : Type 0 where
  pub text : List ℕ
  pub hidden : show ≡ false → text ≡ []
  pub whole : Appends old new text

-- A report ends with this text. If not everything is shown, it has nothing before it.
pub record EndsReport (show : Bool) (old new : Option (List ℕ)) (end : List ℕ) : Type 0 where
  pub datagrams : List ℕ
  pub hidden : show ≡ false → datagrams ≡ []
  pub whole : Appends old new (datagrams ++ end)
