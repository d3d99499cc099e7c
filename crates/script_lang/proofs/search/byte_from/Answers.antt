use Rattle.script_lang.proofs.Prelude.{◌≤◌, ◌∙◌, ◌+◌, arith, is_byte}
use Rattle.script_lang.proofs.PlaceLemmas.{first_place-behind, first_place-prefix, first_place-is}
use Rattle.script_lang.proofs.search.byte_from.Goals as goal

pub returns-then-place-at-clause-place : goal.returns-then-place-at-clause-place
returns-then-place-at-clause-place c =
    let found = c.byte_in_lanes-place.ensures in
    found
    ∙ first_place-prefix (is_byte c.args.text.now c.args.byte) c.loop-at.at (c.loop-at.at + 32) c.args.to
    (omega arith) (omega (arith, c.loop-at-test.true)) (omega (arith, found, c.if-place-at.true))
    ∙ c.loop-at.invariant.2

pub returns-then-place-at-clause-low : goal.returns-then-place-at-clause-low
returns-then-place-at-clause-low c =
    let lanes = first_place-is (is_byte c.args.text.now c.args.byte) c.loop-at.at (c.loop-at.at + 32) (omega arith) in
    omega (arith, c.loop-at.invariant.0, c.byte_in_lanes-place.ensures, lanes.low)

pub loop-at-preserved : goal.loop-at-preserved
loop-at-preserved c =
    let lanes = first_place-is (is_byte c.args.text.now c.args.byte) c.loop-at.at (c.loop-at.at + 32) (omega arith) in
    let room : c.loop-at.at + 32 ≤ c.args.to = omega (arith, c.loop-at-test.true) in (
      omega (arith, c.loop-at.invariant.0),
      room,
      first_place-behind (is_byte c.args.text.now c.args.byte) c.loop-at.at (c.loop-at.at + 32) c.args.to (omega arith) room
          (λ k low below. lanes.before k low (omega (arith, below, c.byte_in_lanes-place.ensures, c.if-place-at.false)))
          ∙ c.loop-at.invariant.2,
    )
