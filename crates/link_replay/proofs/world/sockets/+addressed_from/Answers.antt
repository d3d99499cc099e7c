use Rattle.link_replay.proofs.Prelude.{◌∙◌, ap, sym, same_sockets, sockets_for, sockets_at, CodeSide}
use Rattle.link_replay.proofs.Epochs.{addressed_here, addressed_later}
use Rattle.link_replay.proofs.world.sockets.+addressed_from.Goals as goal

-- src/world/sockets.rt
pub returns-then-has_sockets : goal.returns-then-has_sockets
returns-then-has_sockets t c = λ ss h.
    addressed_here c.args.number c.args.pair c.args.sides.now c.first-item.result ss c.in-len1-up.len_at_least c.first-item.is
    (ap (λ (x : CodeSide). same_sockets (sockets_at c.args.pair) (sockets_for x.client.setup)) (sym c.first.view_is)
    ∙ sym c.has_sockets.ensures ∙ c.if-has_sockets.true) h

pub returns-else-has_sockets : goal.returns-else-has_sockets
returns-else-has_sockets t c = λ ss h.
    addressed_later c.args.number c.args.pair c.args.sides.now c.first-item.result c.addressed_from.result ss c.in-len1-up.len_at_least c.first-item.is
    (ap (λ (x : CodeSide). same_sockets (sockets_at c.args.pair) (sockets_for x.client.setup)) (sym c.first.view_is)
    ∙ sym c.has_sockets.ensures ∙ c.if-has_sockets.false) c.addressed_from.ensures h
