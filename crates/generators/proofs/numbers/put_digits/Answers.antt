-- The last digit of what is left goes before the digits that are written.
use Rattle.generators.proofs.Prelude.{◌+◌, ◌++◌, ◌-◌, ◌%◌, ◌/◌, ◌≡◌, ◌∙◌, ap, append-nil, arith, decimal, drop, drop_all, length-set, refl}
use Rattle.generators.proofs.Prelude.{set, sym, take}
use Rattle.generators.proofs.Digits.{digit_put, fewer, first_put, kept_put, ten_most}
use Rattle.generators.proofs.numbers.put_digits.Goals as goal

pub loop-left-init : goal.loop-left-init
loop-left-init c = record {
  digits = ap (λ l. decimal c.args.number ++ l) (drop_all 10 c.args.places.now (omega (arith, c.told-places))) ∙ append-nil (decimal c.args.number);
  room = ten_most c.args.number (omega arith);
  low = omega arith;
  long = c.told-places;
  kept = refl;
}

pub bounds-places-at : goal.bounds-places-at
bounds-places-at c = c.loop-left.invariant.low

pub overflow_sub-at-in-loop-left : goal.overflow_sub-at-in-loop-left
overflow_sub-at-in-loop-left c = omega (arith, c.loop-left.invariant.room, fewer c.loop-left.left c.loop-left-test.true (omega arith))

pub loop-left-preserved : goal.loop-left-preserved
loop-left-preserved c =
    let more = fewer c.loop-left.left c.loop-left-test.true (omega arith) in
    let same : c.loop-left.at - 1 + 1 ≡ c.loop-left.at = omega (arith, c.loop-left.invariant.room, more) in
    record {
      digits =
          ap (λ k. decimal (c.loop-left.left / 10) ++ drop k (set c.loop-left.places c.loop-left.at (48 + c.loop-left.left % 10))) same
          ∙ digit_put c.loop-left.left c.loop-left.at c.loop-left.places c.loop-left-test.true (omega arith)
          (omega (arith, c.loop-left.invariant.low, c.loop-left.invariant.long))
          ∙ c.loop-left.invariant.digits;
      room = omega (arith, c.loop-left.invariant.room, more);
      low = omega (arith, c.loop-left.invariant.low);
      long = length-set c.loop-left.places c.loop-left.at (48 + c.loop-left.left % 10) ∙ c.loop-left.invariant.long;
      kept =
          ap (λ k. take k (set c.loop-left.places c.loop-left.at (48 + c.loop-left.left % 10))) same
          ∙ kept_put c.loop-left.at (48 + c.loop-left.left % 10) c.loop-left.places c.args.places.now c.loop-left.invariant.kept
          ∙ ap (λ k. take k c.args.places.now) (sym same);
    }

pub bounds-places-at-2 : goal.bounds-places-at-2
bounds-places-at-2 c = c.loop-left.invariant.low

pub returns-clause-within : goal.returns-clause-within
returns-clause-within c = c.loop-left.invariant.low

pub returns-clause-digits : goal.returns-clause-digits
returns-clause-digits c =
    first_put c.loop-left.left c.loop-left.at c.loop-left.places c.loop-left-test.false (omega (arith, c.loop-left.invariant.low, c.loop-left.invariant.long))
    ∙ c.loop-left.invariant.digits

pub returns-clause-kept : goal.returns-clause-kept
returns-clause-kept c = kept_put c.loop-left.at (48 + c.loop-left.left) c.loop-left.places c.args.places.now c.loop-left.invariant.kept
