use Rattle.trace.proofs.Prelude.{◌∙◌, ap, sym, order_of}
use Rattle.trace.proofs.ReadLaws.{header_fault}
use Rattle.trace.proofs.reader.Reader.look_at_header.Goals as goal

pub returns-in-None-clause-fault : goal.returns-in-None-clause-fault
returns-in-None-clause-fault c = λ start now bytes more at.
    let size = rw c.requires.stage at c.requires.full.wants in
    header_fault start now bytes c.args.self.now.number c.args.self.now.part more (c.requires.full.full ∙ size)
    (ap (λ l. order_of l) (sym c.bytes.ensures) ∙ sym c.order_of.ensures ∙ c.in-None.is) (rw c.requires.stage at at)
