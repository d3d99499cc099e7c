use Rattle.link_replay.proofs.Prelude.{sym, ap, ◌∙◌, Some, option_map, Addr, AbstractClient, SideRepresents, CodeSide}
use Rattle.link_replay.proofs.Pairs.{numbered_partner}
use Rattle.link_replay.proofs.Reception.{addr_of}
use Rattle.link_replay.proofs.report.datagram_kind.address_of.Goals as goal

pub returns : goal.returns
returns c = λ ss m.
    let p = numbered_partner SideRepresents c.args.sides.now ss c.args.number c.in_ok-side.side.now m (cc c.in_ok-side.ensures) in
    ap (λ (a : Addr). Some a) c.addr_of.ensures
    ∙ ap (λ (x : CodeSide). Some x.client.setup.addr) c.side.view_is
    ∙ ap (λ (k : AbstractClient). Some k.setup.addr) p.pair.client
    ∙ sym (ap (option_map addr_of) p.there)
