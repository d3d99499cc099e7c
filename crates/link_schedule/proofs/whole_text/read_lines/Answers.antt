use Rattle.link_schedule.proofs.Prelude.{◌≡◌, ◌∙◌, ◌+◌, sym, ap, arith, drop, map, ℕ, List, [], Bor, Ok, drop_all, read_lines, content_of}
use Rattle.link_schedule.proofs.Keeping.{kept_where_read}
use Rattle.link_schedule.proofs.whole_text.read_lines.Goals as goal

pub invariant_of-result : goal.invariant_of-result
invariant_of-result c =
    let rest : drop c.loop-at.at c.args.lines.now ≡ [] = drop_all c.loop-at.at c.args.lines.now (omega arith) in
    let above = content_of c.loop-at.clients.items c.loop-at.output.items in
    let whole : read_lines (c.loop-at.at + 1) above (map (λ (line : Bor (List ℕ)). line.now) (drop c.loop-at.at c.args.lines.now)) ≡ Ok above
    = ap (λ ls. read_lines (c.loop-at.at + 1) above (map (λ (line : Bor (List ℕ)). line.now) ls)) rest in
    kept_where_read above (map (λ (line : Bor (List ℕ)). line.now) c.args.lines.now) (sym c.loop-at.invariant.1 ∙ whole)
