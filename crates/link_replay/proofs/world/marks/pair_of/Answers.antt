use Rattle.link_replay.proofs.Prelude.{Some, Option, ap, ◌∙◌, sym, AbstractClient, Side, sockets_for, pair_at, SideRepresents, pair_at_side}
use Rattle.link_replay.proofs.Prelude.{SocketPair, CodeSide}
use Rattle.link_replay.proofs.Pairs.{numbered_partner}
use Rattle.link_replay.proofs.world.marks.pair_of.Goals as goal

pub returns : goal.returns
returns c = λ ss m.
    let p = numbered_partner SideRepresents c.args.sides.now ss c.args.client c.in_ok-side.side.now m (cc c.in_ok-side.ensures) in
    ap (λ (x : SocketPair). Some x) c.pair_at.ensures
    ∙ ap (λ (x : CodeSide). Some (pair_at (sockets_for x.client.setup))) c.side.view_is
    ∙ ap (λ (k : AbstractClient). Some (record { peer = k.setup.addr; peer_port = k.setup.port; own_port = k.setup.server_port })) p.pair.client
    ∙ sym (ap (λ (x : Option Side). pair_at_side x) p.there)
