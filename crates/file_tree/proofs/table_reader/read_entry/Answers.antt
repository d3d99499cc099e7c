use Rattle.file_tree.proofs.Prelude.{◌≡◌, ◌+◌, drop, ap, sym, subst, ◌∙◌, false, Some, slice_range, err_from_is_err_and, has_name, text}
use Rattle.file_tree.proofs.Prelude.{after_text, kind_given, after_kind, IsPart, files_in, IsEntry}
use Rattle.file_tree.proofs.OrderLemmas.{found-name, slot-fresh}
use Rattle.file_tree.proofs.EntryLemmas.{fault-twice, fault-kind, fault-content, entry-by-parts}
use Rattle.file_tree.proofs.table_reader.read_entry.Goals as goal
use Rattle.file_tree.proofs.table_reader.read_entry.Goals.{In-Err}

pub returns-in_default-clause-err : goal.returns-in_default-clause-err
returns-in_default-clause-err c =
    let bytes = drop c.args.at c.args.image.now in
    let name = c.in_ok-name.name in
    let part : IsPart c.args.image.now name (text bytes) (after_text bytes) = (c.in_ok-name.ensures.ok).1 in
    let found = c.in_default.ensures.found in
    fault-twice c.args.version (files_in c.args.image.now c.args.files.now) bytes (c.in_ok-name.ensures.ok).0
    (found-name (files_in c.args.image.now c.args.files.now) c.args.order.now (text bytes) c.in_default.field-0 c.requires.order found.0
    (found.1 ∙ part.value_is))

-- no earlier file has the name
fresh : (c : In-Err) → has_name (files_in c.args.image.now c.args.files.now) (text (drop c.args.at c.args.image.now)) ≡ false
fresh c =
    let bytes = drop c.args.at c.args.image.now in
    let name = c.in_ok-name.name in
    let part : IsPart c.args.image.now name (text bytes) (after_text bytes) = (c.in_ok-name.ensures.ok).1 in
    let files = files_in c.args.image.now c.args.files.now in
    ap (has_name files) (sym part.value_is)
    ∙ slot-fresh files c.args.order.now (slice_range c.args.image.now name.at (name.at + name.len)) c.in-Err.slot c.requires.order c.in-Err.ensures.missing

pub returns-in_err-kind-clause-err : goal.returns-in_err-kind-clause-err
returns-in_err-kind-clause-err c =
    let p = err_from_is_err_and c.from_residual-in_err-kind.result c.from_residual-in_err-kind.ensures.1 in
    let bytes = drop c.args.at c.args.image.now in
    let part : IsPart c.args.image.now c.in_ok-name.name (text bytes) (after_text bytes) = (c.in_ok-name.ensures.ok).1 in
    rw (p.1, p.2)
    (fault-kind c.args.version (files_in c.args.image.now c.args.files.now) bytes c.in_err-kind.field-0.0 (drop c.in_ok-name.name.next c.args.image.now)
    (c.in_ok-name.ensures.ok).0 (fresh (goal.at.returns-in_err-kind-clause-err c).In-Err) part.rest_is c.in_err-kind.ensures.err)

pub returns-in_err-content-clause-err : goal.returns-in_err-content-clause-err
returns-in_err-content-clause-err c =
    let p = err_from_is_err_and c.from_residual-in_err-content.result c.from_residual-in_err-content.ensures.1 in
    let bytes = drop c.args.at c.args.image.now in
    let rest = drop c.in_ok-name.name.next c.args.image.now in
    let part : IsPart c.args.image.now c.in_ok-name.name (text bytes) (after_text bytes) = (c.in_ok-name.ensures.ok).1 in
    let kind : IsPart c.args.image.now c.in_ok-kind.kind (kind_given c.args.version rest) (after_kind c.args.version rest) = (c.in_ok-kind.ensures.ok).1 in
    rw (p.1, p.2)
    (fault-content c.args.version (files_in c.args.image.now c.args.files.now) bytes (Some c.in_err-content.field-0.0) rest
    (drop c.in_ok-kind.kind.next c.args.image.now)
    (c.in_ok-name.ensures.ok).0 (fresh (goal.at.returns-in_err-content-clause-err c).In-Err) part.rest_is (c.in_ok-kind.ensures.ok).0
    kind.rest_is c.in_err-content.ensures.err)

pub returns-clause-ok : goal.returns-clause-ok
returns-clause-ok c =
    let made = entry-by-parts c.args.image.now c.args.version (files_in c.args.image.now c.args.files.now) c.args.order.now c.args.at
    c.in_ok-name.name c.in_ok-kind.kind c.in_ok-content.content c.in-Err.slot c.requires.order
    (c.in_ok-name.ensures.ok).0 (c.in_ok-name.ensures.ok).1 c.in-Err.ensures.missing
    (c.in_ok-kind.ensures.ok).0 (c.in_ok-kind.ensures.ok).1 (c.in_ok-content.ensures.ok).0 (c.in_ok-content.ensures.ok).1 in
    subst (λ place. IsEntry c.args.image.now c.args.version (files_in c.args.image.now c.args.files.now) c.args.order.now c.args.at place
    c.in-Err.slot c.in_ok-content.content.next)
    (sym c.place_of.ensures) made
