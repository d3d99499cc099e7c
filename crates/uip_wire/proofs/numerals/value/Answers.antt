use Rattle.uip_wire.proofs.Prelude.{◌+◌, ◌-◌, ◌*◌, ◌≤◌, ◌^◌, get_or, take, arith, digits_value}
use Rattle.uip_wire.proofs.NumeralLaws.{none_over, too_great, value_more}
use Rattle.uip_wire.proofs.numerals.value.Goals as goal

pub returns-then-number-digit : goal.returns-then-number-digit
returns-then-number-digit c =
    let i = c.loop-byte.byte-index in
    let text = c.args.text.now in
    let digit = c.from-digit.result in
    let great : 2 ^ 64 ≤ digits_value 10 (take i text) * 10 + (get_or text i 0 - 48) = omega
    (arith, c.loop-byte.invariant, c.if-number-digit.true, c.from-digit.ensures, c.saturating_sub.ensures) in
    none_over (digits_value 10 text) (too_great text i c.loop-byte-test.true c.requires great)

pub loop-byte-preserved : goal.loop-byte-preserved
loop-byte-preserved c =
    omega (
      arith,
      c.loop-byte.invariant,
      value_more c.args.text.now c.loop-byte.byte-index c.loop-byte-test.true c.requires,
      c.from-digit.ensures,
      c.saturating_sub.ensures,
    )
