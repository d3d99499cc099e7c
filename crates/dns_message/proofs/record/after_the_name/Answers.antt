use Rattle.dns_message.proofs.Prelude.{ℕ, List, ◌-◌, arith, ◌∙◌, sym, ap, length, take, drop, take_rest, after_the_name}
use Rattle.dns_message.proofs.RecordLaws.{cut_off, skipped, label_first}
use Rattle.dns_message.proofs.record.after_the_name.Goals as goal

pub returns-then-trailing-count : goal.returns-then-trailing-count
returns-then-trailing-count c =
    let rest = c.loop-rest.rest.now in
    let count = c.from-count.result in
    let same = take_rest rest 1 in
    sym (c.loop-rest.invariant ∙ label_first rest count c.in-len1-up.len_at_least c.from-count.ensures c.if-count-eq0.false
    (omega (arith, c.if-count-ge64.false))
    ∙ cut_off count (drop 1 rest) (omega (arith, ap (λ l. length l) same, c.if-trailing-count.true)))

pub loop-rest-preserved : goal.loop-rest-preserved
loop-rest-preserved c =
    let rest = c.loop-rest.rest.now in
    let count = c.from-count.result in
    let trailing : List ℕ = take (length rest - 1) (drop 1 rest) in
    let same = take_rest rest 1 in
    c.loop-rest.invariant ∙ label_first rest count c.in-len1-up.len_at_least c.from-count.ensures c.if-count-eq0.false (omega (arith, c.if-count-ge64.false))
    ∙ skipped count (drop 1 rest) (omega (arith, ap (λ l. length l) same, c.if-trailing-count.false))
    ∙ sym (ap (λ l. after_the_name 0 l) (take_rest trailing count ∙ ap (λ l. drop count l) same))
