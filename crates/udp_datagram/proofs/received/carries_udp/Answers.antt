use Rattle.std.proofs.Common.{Err, arith, sym, ap, ◌∙◌}
use Rattle.udp_datagram.specs.Prelude.{is_of_other_protocol}
use Rattle.udp_datagram.proofs.Whole.{is_whole}
use Rattle.udp_datagram.proofs.received.carries_udp.Goals as goal

pub bounds-datagram-9 : goal.bounds-datagram-9
bounds-datagram-9 c =
    let w = is_whole c.args.own.0 c.args.datagram.now (ap is_of_other_protocol (sym c.check.ensures.exact ∙ c.in-Err-Protocol.is
    ∙ ap Err c.in-Err-Protocol.field-0-is)) in
    omega (arith, w.0, w.1)

pub returns-in-Err-Protocol-clause-whole : goal.returns-in-Err-Protocol-clause-whole
returns-in-Err-Protocol-clause-whole c = λ _.
    is_whole c.args.own.0 c.args.datagram.now (ap is_of_other_protocol (sym c.check.ensures.exact ∙ c.in-Err-Protocol.is ∙ ap Err c.in-Err-Protocol.field-0-is))
