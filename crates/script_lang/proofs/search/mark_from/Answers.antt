use Rattle.script_lang.proofs.Prelude.{◌≡◌, ◌∙◌, ◌<◌, sym, arith, is_directive_mark}
use Rattle.script_lang.proofs.PlaceLemmas.{first_place-end, first_place-here, first_place-later}
use Rattle.script_lang.proofs.LaneLemmas.{mark-from-byte}
use Rattle.script_lang.proofs.search.mark_from.Goals as goal
use Rattle.script_lang.proofs.search.mark_from.Goals.{then-at-to-via-then-at-to, then-at-to-via-else-at-to+then-is_mark_at}

pub returns-then-at-to-clause-place : goal.returns-then-at-to-clause-place
returns-then-at-to-clause-place c =
    let same = mark-from-byte c.args.text.now c.loop-at.at c.args.to c.byte_from-at.result c.loop-at.invariant.1
    c.byte_from-at.ensures.place ∙ c.loop-at.invariant.2 in
    elim c.then-at-to.branch [
      | then-at-to-via-then-at-to w ↦
          let ended : c.byte_from-at.result ≡ c.args.to = omega (arith, w.if-at-to.true) in
          ended ∙ sym (first_place-end (is_directive_mark c.args.text.now) c.byte_from-at.result c.args.to (omega (arith, ended))) ∙ same
      | then-at-to-via-else-at-to+then-is_mark_at w ↦ sym (first_place-here (is_directive_mark c.args.text.now) c.byte_from-at.result
          c.args.to (omega (arith, w.if-at-to.false, c.byte_from-at.ensures.high)) (sym w.is_mark_at.ensures ∙ w.if-is_mark_at.true)) ∙ same
    ]

pub loop-at-preserved : goal.loop-at-preserved
loop-at-preserved c =
    let same = mark-from-byte c.args.text.now c.loop-at.at c.args.to c.byte_from-at.result c.loop-at.invariant.1
    c.byte_from-at.ensures.place ∙ c.loop-at.invariant.2 in
    let short : c.byte_from-at.result < c.args.to = omega (arith, c.if-at-to.false, c.byte_from-at.ensures.high) in (
      omega (arith, c.loop-at.invariant.0, c.byte_from-at.ensures.low),
      omega (arith, short),
      sym (first_place-later (is_directive_mark c.args.text.now) c.byte_from-at.result c.args.to short (sym c.is_mark_at.ensures
          ∙ c.if-is_mark_at.false)) ∙ same,
    )
