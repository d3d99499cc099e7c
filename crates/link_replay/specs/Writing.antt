-- What a call that writes a text has written.
use Rattle.std.specs.Prelude.{ℕ, List, Option, Result, OnOk, OnErr}
use Rattle.std.specs.Io.KnownBytes.{Appends}
use Rattle.uip_edge.specs.Prelude.{AppendsPrefix}

-- The whole text was appended, or a prefix of it if the sink failed.
pub record Wrote {T E : Type 0} (old new : Option (List ℕ)) (result : Result T E) (text : List ℕ) : Type 0 where
  pub whole : OnOk result (Appends old new text)
  pub prefix : OnErr result (AppendsPrefix old new text)
