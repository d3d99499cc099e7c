use Rattle.uip_slip.proofs.Prelude.{◌≡◌, ◌∙◌, ◌++◌, ◌-◌, append-nil, arith, drop, length, length-take, refl, take, WasFed, frames, state_in}
use Rattle.uip_slip.proofs.DecoderLaws.{ends_on, fed_on, take_first}
use Rattle.uip_slip.proofs.part.Part.feed_run.Goals as goal
use Rattle.uip_slip.proofs.part.Part.feed_run.Goals.{then-bytes+in-More, else-bytes}

pub returns-clause-prefix : goal.returns-clause-prefix
returns-clause-prefix c =
    let bytes = c.args.bytes.now in
    let first = c.if-bytes.first in
    let parts = c.feed_parts-parts.ensures.prefix in
    record {
      some = omega (arith, parts.some);
      within = omega (arith, parts.some, parts.within, length-take (length bytes - first) (drop first bytes));
      frames = λ before f.
          let so_far : WasFed (before ++ take first bytes) (state_in c.if-bytes.area c.if-bytes.self) × (frames (before ++ take first bytes) ≡ frames before) =
          elim c.if-bytes.branch [
            | then-bytes+in-More w ↦
                let one = w.in-More.ensures.frames before f in
                rw (w.first-is, w.self-is, w.area-is, take_first bytes c.requires.some, w.if-bytes.true) (one.0, one.1 ∙ append-nil (frames before))
            | else-bytes w ↦ rw (w.first-is, w.self-is, w.area-is, append-nil before) (f, refl)
          ] in
          fed_on before bytes first c.feed_parts-parts.result.count (state_in c.if-bytes.area c.if-bytes.self)
          (state_in c.feed_parts-parts.new.area c.feed_parts-parts.new.self) _ so_far parts.frames;
      leaves = parts.leaves;
      end = ends_on bytes first c.feed_parts-parts.result.count c.feed_parts-parts.result.fed parts.some parts.within parts.end;
    }
