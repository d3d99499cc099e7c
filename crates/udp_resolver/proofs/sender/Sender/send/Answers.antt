use Rattle.udp_resolver.proofs.Prelude.{◌∙◌, refl, sym, ap, length, take, drop, take_at, Buffer, slip_text, writes_by}
use Rattle.udp_resolver.proofs.sender.Sender.send.Goals as goal

pub returns-clause-writes : goal.returns-clause-writes
returns-clause-writes g c =
    let sent = c.deref.result.now in
    writes_by c.encode.result _ _ _ _
    (sym (ap (λ l. slip_text l) (c.bytes.ensures ∙ ap (λ (p : Buffer). take p.len p.area) c.load.ensures
    ∙ take_at sent (drop (length sent) c.args.packet.now.area) (length sent) refl ∙ c.deref.ensures.0 ∙ c.query.ensures)))
    c.encode.ensures
