use Rattle.link_replay.proofs.Prelude.{Option, Some, sym, ap, ◌∙◌, option_map, CodeSide}
use Rattle.link_replay.proofs.world.WorldOf.first_stale.Goals as goal

pub returns-clause-shows : goal.returns-clause-shows
returns-clause-shows g c =
    ap (λ (o : Option CodeSide). option_map (λ side. side.first_stale) o) c.side-found.ensures.shows
    ∙ ap (λ (x : CodeSide). Some x.first_stale) (sym c.found.view_is)

pub returns-clause-represented : goal.returns-clause-represented
returns-clause-represented g c = λ w s h e. ap (λ (x : CodeSide). x.first_stale) c.found.view_is ∙ (c.side-found.ensures.represented w s h e).first_stale
