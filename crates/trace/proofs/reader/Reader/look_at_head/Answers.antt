use Rattle.trace.proofs.Prelude.{◌<◌, ◌∙◌, ℕ, ap, sym, subst, length_in, LARGEST_DATAGRAM}
use Rattle.trace.proofs.ReadLaws.{empty_captured, length_fault}
use Rattle.trace.proofs.reader.Reader.look_at_head.Goals as goal

pub returns-then-len-gt-LARGEST_DATAGRAM-clause-fault : goal.returns-then-len-gt-LARGEST_DATAGRAM-clause-fault
returns-then-len-gt-LARGEST_DATAGRAM-clause-fault c = λ start now bytes more at.
    let size = rw c.requires.stage at c.requires.full.wants in
    length_fault start now bytes c.args.self.now.number c.args.self.now.part c.args.order more (c.requires.full.full ∙ size)
    (subst (λ (n : ℕ). LARGEST_DATAGRAM < n) (c.field-len.ensures ∙ ap (λ l. length_in c.args.order l) c.bytes.ensures) c.if-len-gt-LARGEST_DATAGRAM.true)
    (rw c.requires.stage at at)

pub returns-then-len-eq0-clause-at : goal.returns-then-len-eq0-clause-at
returns-then-len-eq0-clause-at c = λ start now bytes at.
    let size = rw c.requires.stage at c.requires.full.wants in
    rw c.start_record.ensures
    (empty_captured start now bytes c.args.self.now.number c.args.self.now.part c.args.order (c.requires.full.full ∙ size)
    (ap (λ l. length_in c.args.order l) (sym c.bytes.ensures) ∙ sym c.field-len.ensures ∙ c.if-len-eq0.true) (rw c.requires.stage at at))
