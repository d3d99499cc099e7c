use Rattle.file_tree.proofs.Prelude.{◌+◌, [], length, subst, sym, arith, err_from_is_err_and, length-map, unless, files_in, Fails, HeldFile}
use Rattle.file_tree.proofs.Prelude.{file_of, listed, listed_fault, named}
use Rattle.file_tree.proofs.PackLemmas.{fine, room-at, more-at, fail-at, packs-end}
use Rattle.file_tree.proofs.ReadLemmas.{gives-same}
use Rattle.file_tree.proofs.packer.push_all.Goals as goal

pub push_listed-requires-clause-room : goal.push_listed-requires-clause-room
push_listed-requires-clause-room c =
    room-at c.args.list.now c.loop-entry.entry-index c.loop-entry.draft.image.items c.loop-entry.draft.files.items
    c.loop-entry.draft.order.items c.entry-item.result
    c.loop-entry.invariant c.loop-entry-test.true c.entry-item.is c.requires.size

pub returns-in_err-push_listed-clause-names : goal.returns-in_err-push_listed-clause-names
returns-in_err-push_listed-clause-names c =
    let p = err_from_is_err_and c.from_residual.result c.from_residual.ensures.1 in
    let made = c.loop-entry.draft.image.items in
    let places = c.loop-entry.draft.files.items in
    let part = unless (listed_fault (files_in made places) c.entry-item.result.name) (length places + 1) fine in
    gives-same (λ done. done) c.from_residual.result p.0 part (named [] (listed c.args.list.now)) p.1
    (subst (λ f. Fails f part) (sym p.2) c.in_err-push_listed.ensures.fault)
    (λ e h. fail-at c.args.list.now c.loop-entry.entry-index made places c.loop-entry.draft.order.items c.entry-item.result
    c.loop-entry.invariant c.loop-entry-test.true c.entry-item.is e h)

pub loop-entry-preserved : goal.loop-entry-preserved
loop-entry-preserved c =
    more-at c.args.list.now c.loop-entry.entry-index c.loop-entry.draft.image.items c.loop-entry.draft.files.items
    c.loop-entry.draft.order.items c.entry-item.result
    c.loop-entry.invariant c.loop-entry-test.true c.entry-item.is
    c.push_listed.new.draft.image.items c.push_listed.new.draft.files.items c.push_listed.new.draft.order.items
    c.in_ok-push_listed.ensures.fault c.in_ok-push_listed.ensures.image c.in_ok-push_listed.ensures.files c.in_ok-push_listed.ensures.count
    c.in_ok-push_listed.ensures.table

pub returns-clause-names : goal.returns-clause-names
returns-clause-names c =
    let list = c.args.list.now in
    (packs-end (listed list) c.loop-entry.entry-index c.loop-entry.draft.image.items c.loop-entry.draft.files.items
    c.loop-entry.draft.order.items c.loop-entry.invariant
    (omega (arith, length-map list (λ (x : HeldFile). file_of x.name x.content), c.loop-entry-test.false))).names
