use Rattle.dns_message.proofs.Prelude.{arith, ◌∙◌, ◌+◌, ◌&&◌, sym, ap, length, drop, take, list_all, take_rest, is_label, labels}
use Rattle.dns_message.proofs.DotLaws.{and_true, cut, uncut}
use Rattle.dns_message.proofs.name.has_labels.Goals as goal

pub returns-then-not-is_label : goal.returns-then-not-is_label
returns-then-not-is_label c =
    let rest = c.loop-dot.rest.now in
    let trailing = labels (drop (c.in-Some.dot + 1) rest) in
    sym (sym c.loop-dot.invariant ∙ ap (λ l. list_all is_label l) (cut rest c.in-Some.dot c.in-Some.ensures)
    ∙ ap (λ b. b && list_all is_label trailing) (sym c.is_label.ensures ∙ c.if-not-is_label.true))

pub loop-dot-preserved : goal.loop-dot-preserved
loop-dot-preserved c =
    let rest = c.loop-dot.rest.now in
    let trailing = labels (drop (c.in-Some.dot + 1) rest) in
    ap (λ l. list_all is_label (labels l)) (take_rest rest (c.in-Some.dot + 1))
    ∙ sym (ap (λ l. list_all is_label l) (cut rest c.in-Some.dot c.in-Some.ensures) ∙ ap (λ b. b && list_all is_label trailing)
    (sym c.is_label.ensures ∙ c.if-not-is_label.false))
    ∙ c.loop-dot.invariant

pub returns : goal.returns
returns c =
    let rest = c.loop-dot.rest.now in
    c.is_label-2.ensures ∙ sym (and_true (is_label rest)) ∙ sym (ap (λ l. list_all is_label l) (uncut rest c.in_default.ensures)) ∙ c.loop-dot.invariant
