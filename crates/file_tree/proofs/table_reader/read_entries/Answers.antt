use Rattle.file_tree.proofs.Prelude.{◌∙◌, ◌+◌, drop, ap, sym, subst, arith, insert, entry_fault, files_in}
use Rattle.file_tree.proofs.TableLemmas.{Reading, reading-goes-on, reading-fails, reading-ends, entry-seen}
use Rattle.file_tree.proofs.table_reader.read_entries.Goals as goal

pub returns-in-Err-clause-err : goal.returns-in-Err-clause-err
returns-in-Err-clause-err c =
    reading-fails c.args.image.now c.args.version c.args.count c.loop-number.number c.loop-number.next c.loop-number.files.items
    c.loop-number.order.items c.in-Err.why
    c.loop-number.invariant.0 (omega (arith, c.loop-number-test.true))
    (ap (λ fs. entry_fault c.args.version (files_in c.args.image.now fs) (drop c.loop-number.next c.args.image.now))
    (sym c.deref.ensures.value) ∙ c.in-Err.ensures.err)

pub loop-number-preserved : goal.loop-number-preserved
loop-number-preserved c =
    let entry = c.in-Ok.entry in
    let image = c.args.image.now in
    let places = c.loop-number.files.items in
    let order = c.loop-number.order.items in
    let known = entry-seen image c.args.version places c.deref.result.now order c.deref-in-loop-number.result.now c.loop-number.next
    entry.place entry.slot entry.next
    c.deref.ensures.value c.deref-in-loop-number.ensures.value c.in-Ok.ensures.ok in
    let next = reading-goes-on image c.args.version c.args.count c.loop-number.number c.loop-number.next places order entry.place entry.slot entry.next
    c.loop-number.invariant.0 (omega (arith, c.loop-number-test.true)) known in (
      subst (λ os. Reading image c.args.version c.args.count (c.loop-number.number + 1) entry.next c.push_reserved.new.self.items os)
          (sym c.insert_reserved.ensures.items)
          (subst (λ fs. Reading image c.args.version c.args.count (c.loop-number.number + 1) entry.next fs
          (insert order entry.slot (record { 0 = c.loop-number.number }))) (sym c.push_reserved.ensures.items) next),
      omega (arith, c.loop-number.invariant.1, c.push_reserved.ensures.capacity),
      omega (arith, c.loop-number.invariant.2, c.insert_reserved.ensures.capacity),
    )

pub returns-clause-ok : goal.returns-clause-ok
returns-clause-ok c =
    reading-ends c.args.image.now c.args.version c.args.count c.loop-number.number c.loop-number.next c.loop-number.files.items c.loop-number.order.items
    c.loop-number.invariant.0 (omega (arith, c.loop-number-test.false))
