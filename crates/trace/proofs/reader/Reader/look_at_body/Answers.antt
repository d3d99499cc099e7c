use Rattle.trace.proofs.Prelude.{◌∙◌, ap, sym, arith, appends_by, on_err, slip_text}
use Rattle.trace.proofs.ReadLaws.{IsBody, body_done, body_part, broke_all}
use Rattle.trace.proofs.reader.Reader.look_at_body.Goals as goal

pub returns-in_err-encode-clause-broke : goal.returns-in_err-encode-clause-broke
returns-in_err-encode-clause-broke g c =
    let wants = rw c.requires.stage at c.requires.full.wants in
    let full = c.requires.full.full in
    let is : IsBody c.args.order c.args.self.now.part =
    record { some = omega (arith, wants.0, full); size = full ∙ wants.3; fits = omega (arith, wants.1, wants.3) } in
    on_err _ (broke_all _ _ c.args.self.now.stage c.args.self.now.number c.args.self.now.part _ c.args.order is c.requires.stage
    (ap (λ l. slip_text l) (body_part c.bytes.result.now c.args.self.now.part c.bytes.ensures)) c.in_err-encode.ensures.prefix)

pub returns-clause-at : goal.returns-clause-at
returns-clause-at g c = λ start bytes at.
    let wants = rw c.requires.stage at c.requires.full.wants in
    let full = c.requires.full.full in
    let is : IsBody c.args.order c.args.self.now.part =
    record { some = omega (arith, wants.0, full); size = full ∙ wants.3; fits = omega (arith, wants.1, wants.3) } in
    rw c.start_record.ensures
    (body_done start (g.K.Sink.written c.args.sink.now) (g.K.Sink.written c.encode.new.sink) bytes c.args.self.now.number c.args.self.now.part c.args.order is
    (rw c.requires.stage at at)
    (appends_by _ _ _ _ (ap (λ l. slip_text l) (sym (body_part c.bytes.result.now c.args.self.now.part c.bytes.ensures))) c.in_ok-encode.ensures.whole))
