use Rattle.uip_device.proofs.Prelude.{◌≡◌, ◌≤◌, ◌+◌, ◌-◌, ◌++◌, ◌∙◌, ap, arith, drop, length, length-append, length-take, sym, take}
use Rattle.std.proofs.Math.Seq.{take-add}
use Rattle.std.proofs.lemmas.List.{take-take}
use Rattle.uip_slip.specs.Prelude.{escaped}
use Rattle.uip_slip.proofs.TextLaws.{escaped_then, run_text}
use Rattle.uip_device.proofs.pending_output.put_some.Goals as goal

pub returns-then-plain-fits-clause-text : goal.returns-then-plain-fits-clause-text
returns-then-plain-fits-clause-text c =
    let run = c.put_plain-plain.ensures in
    let n = c.put_plain-plain.result in
    let piece = c.args.piece.now in
    let within : n ≤ c.min-fits.result = omega (arith, run.prefix.within, length-take c.min-fits.result piece) in
    let same : take n (take c.min-fits.result piece) ≡ take n piece = take-take n c.min-fits.result piece within in
    run_text _ _ _ _ run.prefix.plain run.text ∙ ap (λ l. take c.args.len c.args.out.now ++ escaped l) same

pub returns-clause-grows : goal.returns-clause-grows
returns-clause-grows c =
    let n = c.put_plain-plain.result in
    let end = c.args.len + n in
    let out = c.put_plain-plain.new.out in
    let run = c.put_plain-plain.ensures in
    let more = c.put_bytes-len.ensures in
    let within : end ≤ length out = omega (arith, run.long, run.prefix.within, length-take c.min-fits.result c.args.piece.now, c.min-fits.ensures, c.requires.room) in
    omega (
      arith,
      ap (λ l. length l) more.text,
      length-append (take end out) (escaped (take (n + c.min-2.result - n) (drop n c.args.piece.now))),
      length-take end out,
      length-take c.put_bytes-len.result c.put_bytes-len.new.out,
      within,
    )

pub returns-clause-text : goal.returns-clause-text
returns-clause-text c =
    let run = c.put_plain-plain.ensures in
    let n = c.put_plain-plain.result in
    let k = c.min-2.result in
    let piece = c.args.piece.now in
    let start = take c.args.len c.args.out.now in
    let within : n ≤ c.min-fits.result = omega (arith, run.prefix.within, length-take c.min-fits.result piece) in
    let same : take n (take c.min-fits.result piece) ≡ take n piece = take-take n c.min-fits.result piece within in
    let first = run_text _ _ _ _ run.prefix.plain run.text ∙ ap (λ l. start ++ escaped l) same in
    let part : take n piece ++ take (n + k - n) (drop n piece) ≡ take (n + k) piece =
    ap (λ m. take n piece ++ take m (drop n piece)) (let e : n + k - n ≡ k = omega arith in e) ∙ sym (take-add n k piece) in
    escaped_then start _ _ (take n piece) (take (n + k - n) (drop n piece)) first c.put_bytes-len.ensures.text ∙ ap (λ l. start ++ escaped l) part
