use Rattle.udp_resolver.proofs.Prelude.{◌∙◌, refl, ap, sym, on_ok_weaker, last_ident, query_texts, questions, events, writes_none}
use Rattle.udp_resolver.proofs.RunLaws.{knows_silence, next_by, next_none, writes_some_by}
use Rattle.udp_resolver.proofs.run.Run.tick.Goals as goal

pub returns-then-not-tick-clause-knows : goal.returns-then-not-tick-clause-knows
returns-then-not-tick-clause-knows g c = λ items e k.
    let asked = questions c.args.asking c.args.names.now in
    knows_silence asked items c.args.self.now _ e k (c.tick.ensures.at (events items) e k.at) refl refl
    (ap (λ l. last_ident c.args.self.now.sender.ident l) (sym (next_none asked items (sym (c.tick.ensures.again (events items) e k.at) ∙ c.if-not-tick.true))))

pub returns-clause-knows : goal.returns-clause-knows
returns-clause-knows g c =
    on_ok_weaker c.send_open.result
    (λ ident items e k.
    let asked = questions c.args.asking c.args.names.now in
    let due = sym (c.tick.ensures.again (events items) e k.at) ∙ c.if-not-tick.false in
    knows_silence asked items c.args.self.now _ e k (c.tick.ensures.at (events items) e k.at) refl refl
    (ident ∙ ap (λ l. last_ident c.args.self.now.sender.ident l)
    (sym (next_by asked items c.args.self.now c.as_slice.result.now e k c.as_slice.ensures.value due))))
    c.send_open.ensures.ident

pub returns-then-not-tick-clause-writes : goal.returns-then-not-tick-clause-writes
returns-then-not-tick-clause-writes g c = λ items e k.
    let asked = questions c.args.asking c.args.names.now in
    writes_some_by _ _ _ _ _
    (ap (λ l. query_texts c.args.self.now.sender.ident l) (next_none asked items (sym (c.tick.ensures.again (events items) e k.at) ∙ c.if-not-tick.true)))
    (record { writes = writes_none _ _; some = tt })

pub returns-clause-writes : goal.returns-clause-writes
returns-clause-writes g c = λ items e k.
    let asked = questions c.args.asking c.args.names.now in
    let due = sym (c.tick.ensures.again (events items) e k.at) ∙ c.if-not-tick.false in
    writes_some_by c.send_open.result _ _ _ _
    (ap (λ l. query_texts c.args.self.now.sender.ident l) (next_by asked items c.args.self.now c.as_slice.result.now e k c.as_slice.ensures.value due))
    c.send_open.ensures.writes
