use Rattle.link_replay.proofs.Prelude.{◌≡◌, ℕ, Bool, Option, Some, sym, ap, ◌∙◌, not-not, is_none, option_map, CodeSide}
use Rattle.std.proofs.Math.Bool.{not}
use Rattle.std.specs.Prelude.{is_some}
use Rattle.link_replay.proofs.world.WorldOf.clean.Goals as goal

reported_none : {X : Type 0} (o : Option X) (b : Bool) → is_some o ≡ not b → b ≡ is_none o
reported_none o b e = sym (not-not b) ∙ ap (λ (x : Bool). not x) (sym e)

pub returns-clause-shows : goal.returns-clause-shows
returns-clause-shows g c =
    ap (λ (o : Option CodeSide). option_map (λ side. is_none side.first_stale) o) c.side-found.ensures.shows
    ∙ ap (λ (b : Bool). Some b) (sym (reported_none _ _ c.is_none.ensures ∙ ap (λ (x : CodeSide). is_none x.first_stale) c.found.view_is))

pub returns-clause-represented : goal.returns-clause-represented
returns-clause-represented g c = λ w s h e.
    reported_none _ _ c.is_none.ensures ∙ ap (λ (x : CodeSide). is_none x.first_stale) c.found.view_is
    ∙ ap (λ (n : Option ℕ). is_none n) (c.side-found.ensures.represented w s h e).first_stale
