use Rattle.uip_slip.proofs.Prelude.{refl, rules, arith, eqb-true, bit_and, bit_xor, and_le_r, xor_lt}
use Rattle.uip_slip.proofs.Words.{plain_high, plain_low}
use Rattle.uip_slip.proofs.marks.is_plain_word.Goals as goal

pub returns-then-word-eq0 : goal.returns-then-word-eq0
returns-then-word-eq0 c = λ _. plain_low c.args.bytes c.from_le_bytes-word.result (search rules) (search rules) c.from_le_bytes-word.ensures c.if-word-eq0.true

pub overflow_add-result-2 : goal.overflow_add-result-2
overflow_add-result-2 c =
    let ends = bit_xor c.from_le_bytes-word.result 0xC0C0_C0C0_C0C0_C0C0 in
    let low = bit_and ends 0x7F7F_7F7F_7F7F_7F7F in
    omega (arith, xor_lt 63 low 0x1B1B_1B1B_1B1B_1B1B (omega (arith, and_le_r ends 0x7F7F_7F7F_7F7F_7F7F)) (omega arith))

pub returns : goal.returns
returns c = λ e.
    let ends = bit_xor c.from_le_bytes-word.result 0xC0C0_C0C0_C0C0_C0C0 in
    let low = bit_and ends 0x7F7F_7F7F_7F7F_7F7F in
    plain_high c.args.bytes c.from_le_bytes-word.result (search rules) (search rules) c.from_le_bytes-word.ensures
    ends low (bit_xor low 0x1B1B_1B1B_1B1B_1B1B) refl refl refl (eqb-true _ _ e)
