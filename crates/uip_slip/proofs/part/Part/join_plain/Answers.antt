use Rattle.uip_slip.proofs.Prelude.{◌++◌, ◌+◌, ◌≡◌, ◌≤◌, ◌∙◌, ap, arith, length, length-take, length-take-le, sym, take, take-take, true≢false}
use Rattle.uip_slip.proofs.Prelude.{PartState, is_plain, list_all, state_in}
use Rattle.uip_slip.proofs.DecoderLaws.{joined_within}
use Rattle.uip_slip.proofs.part.Part.join_plain.Goals as goal

pub returns : goal.returns
returns c =
    let s = c.args.self.now in
    let area = c.args.area.now in
    let bytes = c.args.bytes.now in
    let n = c.append_plain.result in
    let run = c.append_plain.ensures in
    let len : c.self.inside.len ≡ s.len = ap (λ (v : PartState). v.len) c.self.view_is in
    let fits : s.len ≤ 1500 = omega (arith, len, c.self.invariant) in
    let within : n ≤ c.min.result = omega (arith, run.prefix.within, length-take c.min.result bytes) in
    let room : s.len + length (take n bytes) ≤ 1500 = omega (arith, within, c.min.ensures, len, fits, length-take n bytes) in
    let same : take n (take c.min.result bytes) ≡ take n bytes = take-take n c.min.result bytes within in
    record {
      long = run.long;
      within = omega (arith, within, c.min.ensures);
      plain = ap (list_all is_plain) (sym same) ∙ run.prefix.plain;
      waiting = λ e. absurd (true≢false (sym e ∙ sym (ap (λ (v : PartState). v.waits) c.self.view_is) ∙ c.if-self.false));
      joined = λ e.
          run.fed ∙ ap (λ l. record (state_in area s) { bytes = take s.len area ++ l }) same
          ∙ joined_within (state_in area s) (take n bytes) s.len (length-take-le s.len area (omega (arith, fits, c.requires))) room;
    }
