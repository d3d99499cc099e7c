use Rattle.uip_slip.proofs.Prelude.{◌≡◌, ◌∙◌, ◌+◌, ◌-◌, not, sym, ap, arith, take, drop, length-take, length-drop, prefix_len, is_mark}
use Rattle.std.proofs.lemmas.Bool.{ne_eqb}
use Rattle.uip_slip.proofs.Lanes.{counted, none_set, one_set, window}
use Rattle.uip_slip.proofs.marks.plain_lanes.Goals as goal

pub returns-then-mask-eq0-clause-count : goal.returns-then-mask-eq0-clause-count
returns-then-mask-eq0-clause-count g c =
    sym (none_set _ g.row.N _ c.if-mask-eq0.true)
    ∙ counted g.row.N (take g.row.N (drop c.args.at c.args.bytes.now))
    (omega (arith, c.requires.room, length-take g.row.N (drop c.args.at c.args.bytes.now), length-drop c.args.at c.args.bytes.now)) c.requires.few
    ∙ ap (λ n. prefix_len (λ b. not (is_mark b)) (take n (drop c.args.at c.args.bytes.now))) (let width : g.row.N ≡ c.args.at + g.row.N -
    c.args.at = omega arith in width)

pub returns-clause-count : goal.returns-clause-count
returns-clause-count g c =
    sym (one_set _ g.row.N _ (ne_eqb _ _ c.if-mask-eq0.false))
    ∙ counted g.row.N (take g.row.N (drop c.args.at c.args.bytes.now))
    (omega (arith, c.requires.room, length-take g.row.N (drop c.args.at c.args.bytes.now), length-drop c.args.at c.args.bytes.now)) c.requires.few
    ∙ ap (λ n. prefix_len (λ b. not (is_mark b)) (take n (drop c.args.at c.args.bytes.now))) (let width : g.row.N ≡ c.args.at + g.row.N -
    c.args.at = omega arith in width)

pub returns-clause-bound : goal.returns-clause-bound
returns-clause-bound g c = (window c.args.bytes.now c.args.at g.row.N _ c.requires.room (returns-clause-count g c)).le
