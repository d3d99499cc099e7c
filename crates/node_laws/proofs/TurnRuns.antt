-- The trace of a node beside its run.
use Rattle.node_laws.proofs.Prelude.{◌≡◌, ℕ, Bool, List, [], ◌∷◌, map, refl, ap, ◌∙◌, Option, Some, None, AppSpec, Event, Reply}
use Rattle.node_laws.proofs.Prelude.{AbstractNode, joined, run, step, replies_of, with_first, trace_of}

same_first : (sent : Option Reply) (replies : List Reply) → with_first sent replies ≡ joined sent replies
same_first None replies = refl
same_first (Some reply) replies = refl

module _ (m : AppSpec) (served : ℕ → Bool) where
  -- the events of the turns are those that came
  pub turn_events : (events : List Event) (n : AbstractNode) → map (λ t. t.event) (trace_of m served events n) ≡ events
  turn_events [] n = refl
  turn_events (e ∷ es) n = ap (λ l. e ∷ l) (turn_events es (step m served n e).node)

  -- what is sent in them is what the run sends
  pub sends : (events : List Event) (n : AbstractNode) → replies_of (trace_of m served events n) ≡ (run m served events n).sent
  sends [] n = refl
  sends (e ∷ es) n = same_first (step m served n e).sent _ ∙ ap (λ l. joined (step m served n e).sent l) (sends es (step m served n e).node)
