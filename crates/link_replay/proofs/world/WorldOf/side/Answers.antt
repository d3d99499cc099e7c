use Rattle.link_replay.proofs.Prelude.{◌≡◌, ℕ, ◌-◌, ◌<◌, Some, slice_get, length, sym, ap, ◌∙◌, arith, CodeSide}
use Rattle.link_replay.proofs.Pairs.{numbered_at, there_is}
use Rattle.link_replay.proofs.world.WorldOf.side.Goals as goal

pub returns-clause-shows : goal.returns-clause-shows
returns-clause-shows g c = rw (← c.self.view_is) (
    let n : ℕ = c.from.result - 1 in
    let sides = c.self.inside.sides.items in
    let side : CodeSide = c.index.result.now in
    let at : slice_get sides n ≡ Some side = there_is sides n side c.index.ensures
    (omega (arith, c.requires.most, ap (λ x. length x.link.sides) c.self.view_is)) in
    numbered_at sides c.args.number (omega arith) ∙ ap (slice_get sides) (let same : c.args.number - 1 ≡ n = omega arith in same) ∙ at)

pub returns-clause-represented : goal.returns-clause-represented
returns-clause-represented g c = rw (← c.self.view_is) (λ w s h e.
    let n : ℕ = c.from.result - 1 in
    let above : 0 < c.args.number = omega arith in
    let same : c.args.number - 1 ≡ n = omega arith in
    let side : CodeSide = c.index.result.now in
    let at : slice_get c.self.inside.sides.items n ≡ Some side = there_is c.self.inside.sides.items n side c.index.ensures
    (omega (arith, c.requires.most, ap (λ x. length x.link.sides) c.self.view_is)) in
    let there : slice_get w.sides n ≡ Some s = ap (slice_get w.sides) (sym same) ∙ sym (numbered_at w.sides c.args.number above) ∙ e in
    h.link.sides.each n side s at there)
