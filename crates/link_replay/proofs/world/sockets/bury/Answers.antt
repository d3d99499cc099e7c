use Rattle.link_replay.proofs.Prelude.{◌∙◌, List, Some, set, sym, ap, subst, arith, Any, on_err, map_over_more, retires, IsAtLast, buried}
use Rattle.link_replay.proofs.Prelude.{Matched, SideRepresents}
use Rattle.link_replay.specs.Plain.{CodeSide as Side}
use Rattle.link_replay.proofs.Epochs.{all_buried, all_done, kept_more, last_found}
use Rattle.link_replay.proofs.world.sockets.bury.Goals as goal

-- src/world/sockets.rt
pub returns-in_err-bury_one-clause-kept : goal.returns-in_err-bury_one-clause-kept
returns-in_err-bury_one-clause-kept c = kept_more c.args.sides.now c.loop-side.sides c.loop-side.side-index c.side-item.result
    c.bury_one.new.side c.loop-side.invariant.kept (omega arith) c.bury_one.ensures.kept

pub returns-in_err-bury_one-clause-last : goal.returns-in_err-bury_one-clause-last
returns-in_err-bury_one-clause-last c =
    on_err {P = Any (IsAtLast c.args.gone) c.args.sides.now} c.from_residual.result
    (last_found c.args.gone c.args.sides.now c.loop-side.sides c.loop-side.side-index c.side-item.result (omega arith)
    c.loop-side.invariant.so_far c.in_err-bury_one.ensures.last)

pub loop-side-preserved : goal.loop-side-preserved
loop-side-preserved c = record {
  kept = kept_more c.args.sides.now c.loop-side.sides c.loop-side.side-index c.side-item.result c.bury_one.new.side
      c.loop-side.invariant.kept (omega arith) c.bury_one.ensures.kept;
  so_far = (let new = c.in_ok-bury_one.ensures.buried in
      ap (set c.loop-side.sides c.loop-side.side-index) (new ∙ ap (buried c.args.gone) (sym c.side-item.is))
      ∙ map_over_more (buried c.args.gone) c.args.sides.now c.loop-side.sides c.loop-side.side-index c.side-item.result (omega arith)
      c.loop-side.invariant.so_far c.side-item.is);
}

pub returns-clause-represented : goal.returns-clause-represented
returns-clause-represented c = λ ss g e h.
    subst (λ (l : List Side). Matched SideRepresents l (retires (Some g) ss))
    (sym (all_done c.args.gone c.args.sides.now c.loop-side.sides c.loop-side.side-index c.loop-side-test.false c.loop-side.invariant.so_far))
    (all_buried c.args.gone g c.args.sides.now ss e h)
