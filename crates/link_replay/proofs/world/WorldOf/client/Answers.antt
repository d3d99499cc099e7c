use Rattle.link_replay.proofs.Prelude.{Option, Some, sym, ap, ◌∙◌, option_map, abstract_client, AbstractClient, CodeSide}
use Rattle.link_replay.proofs.world.WorldOf.client.Goals as goal

pub returns-clause-shows : goal.returns-clause-shows
returns-clause-shows g c =
    ap (λ (o : Option CodeSide). option_map (λ side. side.client) o) c.side-found.ensures.shows ∙ ap (λ (x : CodeSide). Some x.client) (sym c.found.view_is)

pub returns-clause-represented : goal.returns-clause-represented
returns-clause-represented g c = λ w s h e.
    let p = c.side-found.ensures.represented w s h e in
    ap (λ (x : CodeSide). abstract_client x.client s.client.request s.client.received) c.found.view_is
    ∙ sym (ap (λ (k : AbstractClient). abstract_client c.side-found.result.now.client k.request k.received) p.client) ∙ p.client
