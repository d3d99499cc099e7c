-- What holds of the text of each world that a replay may be at, by how the call ended.
use Rattle.link_replay.proofs.Prelude.{ℕ, Bool, List, Option, Result, Ok, Err, OnErr, OnOk, Appends, AppendsPrefix, AppSpec, World, IsAt}
use Rattle.link_replay.proofs.Prelude.{Wrote}

module _ {T E : Type 0} (StandsFor : World → Type 0) (text : World → List ℕ) (old new : Option (List ℕ)) where
  pub reported_whole : (r : Result T E) → ((m : AppSpec) (served : ℕ → Bool) (w : World) → StandsFor w → IsAt m served w → Wrote old new r (text w))
      → OnOk r ((m : AppSpec) (served : ℕ → Bool) (w : World) → StandsFor w → IsAt m served w → Appends old new (text w))
  reported_whole (Ok t) wrote = λ m served w represented reached. (wrote m served w represented reached).whole
  reported_whole (Err e) wrote = tt

  pub reported_prefix : (r : Result T E) → ((m : AppSpec) (served : ℕ → Bool) (w : World) → StandsFor w → IsAt m served w → Wrote old new r (text w))
      → OnErr r ((m : AppSpec) (served : ℕ → Bool) (w : World) → StandsFor w → IsAt m served w → AppendsPrefix old new (text w))
  reported_prefix (Ok t) wrote = tt
  reported_prefix (Err e) wrote = λ m served w represented reached. (wrote m served w represented reached).prefix
