use Rattle.uip_slip.proofs.Prelude.{◌≡◌, ◌∙◌, ◌++◌, ◌∷◌, [], ap, ne_eqb, subst, sym, State, WasFed, frames, taken, state_in}
use Rattle.uip_slip.proofs.DecoderLaws.{fed_byte}
use Rattle.uip_slip.proofs.part.Part.feed.Goals as goal

pub returns-clause-frames : goal.returns-clause-frames
returns-clause-frames c = λ bytes f.
    let area = c.args.area.now in
    let byte = c.args.byte in
    subst (λ (s : State). WasFed (bytes ++ byte ∷ []) s × (frames (bytes ++ byte ∷ []) ≡ frames bytes ++ []))
    (sym (c.take.ensures.fed ∙ ap (λ (s : State). taken s byte) (c.reopen.ensures area)))
    (fed_byte bytes (state_in area c.args.self.now) byte (ne_eqb _ _ c.if-byte-eq-END.false) f)
