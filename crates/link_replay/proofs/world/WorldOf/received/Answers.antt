use Rattle.link_replay.proofs.Prelude.{ℕ, List, Option, Some, sym, ap, ◌∙◌, option_map, AbstractClient, CodeSide}
use Rattle.link_replay.proofs.world.WorldOf.received.Goals as goal

pub returns-clause-shows : goal.returns-clause-shows
returns-clause-shows g c =
    ap (λ (o : Option CodeSide). option_map (λ side. side.received) o) c.side-found.ensures.shows
    ∙ ap (λ (l : List ℕ). Some l) (sym (c.as_slice.ensures.value ∙ ap (λ (x : CodeSide). x.received) c.found.view_is))

pub returns-clause-represented : goal.returns-clause-represented
returns-clause-represented g c = λ w s h e.
    c.as_slice.ensures.value ∙ ap (λ (x : CodeSide). x.received) c.found.view_is ∙ ap (λ (k : AbstractClient). k.received)
    (c.side-found.ensures.represented w s h e).client
