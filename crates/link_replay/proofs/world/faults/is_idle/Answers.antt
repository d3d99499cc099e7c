use Rattle.link_replay.proofs.Prelude.{sym, ap, ◌∙◌, AbstractClient, is_idle, state_at, SideRepresents, CodeSide}
use Rattle.link_replay.proofs.Pairs.{none_numbered, numbered_partner}
use Rattle.link_replay.proofs.world.faults.is_idle.Goals as goal

pub returns-in-Some : goal.returns-in-Some
returns-in-Some c = λ ss m.
    let p = numbered_partner SideRepresents c.args.sides.now ss c.args.number c.in-Some.side.now m (cc c.in-Some.ensures) in
    c.is_idle_client.ensures
    ∙ ap (λ (x : CodeSide). is_idle x.client.state) c.side.view_is
    ∙ ap (λ (k : AbstractClient). is_idle k.state) p.pair.client
    ∙ sym (ap (λ s. is_idle (state_at s)) p.there)

pub returns-in-None : goal.returns-in-None
returns-in-None c = λ ss m. sym (ap (λ s. is_idle (state_at s)) (none_numbered SideRepresents c.args.sides.now ss c.args.number m (cc c.in-None.ensures)))
