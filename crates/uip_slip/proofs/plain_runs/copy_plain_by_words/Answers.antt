use Rattle.uip_slip.proofs.Prelude.{◌≡◌, ◌≤◌, ◌+◌, ◌-◌, ◌++◌, ◌∙◌, ap, arith, drop, drop-put_mid, length, length-drop, length-take}
use Rattle.uip_slip.proofs.Prelude.{same_len_mid, take, take-put_mid}
use Rattle.uip_slip.proofs.Copies.{chunk_is, copied_more}
use Rattle.uip_slip.proofs.Words.{eight_more}
use Rattle.uip_slip.proofs.plain_runs.copy_plain_by_words.Goals as goal

pub words-preserved : goal.words-preserved
words-preserved c =
    let bytes = c.args.bytes.now in
    let word = c.in-Some.chunk.now in
    let at = c.words.at in
    let so_far = c.words.invariant in
    let chunk = c.in-Some.ensures.cases in
    let until = eight_more bytes word at so_far.until chunk (c.is_plain_word.ensures c.if-not-is_plain_word.false) in
    let is = chunk_is bytes word at chunk in
    let out = c.words.out in
    let ys = c.copy_from_slice.new.self in
    let part : ys ≡ word = c.copy_from_slice.ensures.after in
    let eight : length ys ≡ 8 = omega (arith, ap length part, ap length is, length-take 8 (drop at bytes), length-drop at bytes, until.within) in
    let within : at + 8 ≤ length out = omega (arith, so_far.long, until.within, c.requires) in
    let k = at + 8 - at in
    copied_more bytes c.args.out.now out _ word at 8 so_far until is (same_len_mid at k out ys c.copy_from_slice.ensures.len)
    (take-put_mid at k out ys (at + 8) (omega (arith, eight)) (omega (arith, within)) ∙ ap (λ l. take at out ++ l) part)
    (drop-put_mid at k out ys (at + 8) (omega arith) (omega (arith, within)) (omega (arith, eight)))
