use Rattle.serve_loop.proofs.Prelude.{◌∷◌, ◌++◌, [], refl, ap, arith, ◌≡◌, ◌∙◌, append-nil, map, on_err, Periodic, OfMedium, OfNode}
use Rattle.serve_loop.proofs.NodeLaws.{acts_wrote, calls, calls_after, slots_broke}
use Rattle.serve_loop.proofs.RunLaws.{wrote_by, wrote_then}
use Rattle.serve_loop.proofs.node_output.tick.Goals as goal

pub loop-slot-init : goal.loop-slot-init
loop-slot-init g c = record {
  same = refl;
  fed = c.tick.ensures.fed;
  wrote = λ k m own.
      wrote_by m g.A.App.served (g.M.Medium.spec k) own _ _ _ _ _ _ (append-nil (map OfMedium (g.M.Medium.spec k).at_tick))
      (acts_wrote m g.A.App.served (g.M.Medium.spec k) own (g.M.Medium.spec k).at_tick _ _ _ (c.tick.ensures.silent k)
      (λ s p. record { represented = p.represented; acted = c.tick.ensures.did k s.acts p.acted }));
  calm = refl;
}

pub returns-in_err-call_slot-clause-err : goal.returns-in_err-call_slot-clause-err
returns-in_err-call_slot-clause-err g c =
    on_err _ (slots_broke g.A.App.served g.M.Medium.spec (λ k. map OfMedium (g.M.Medium.spec k).at_tick) _ _ _ _ _ _ c.loop-slot.slot
    (omega arith) c.loop-slot.invariant.wrote c.in_err-call_slot.ensures.err)

pub loop-slot-preserved : goal.loop-slot-preserved
loop-slot-preserved g c =
    let inv = c.loop-slot.invariant in
    let reported = c.in_ok-call_slot.ensures in
    let slot = c.loop-slot.slot in
    record {
      same = reported.same ∙ inv.same;
      fed = λ k before p. reported.fed k before (inv.fed k before p);
      wrote = λ k m own.
          let acts = map OfMedium (g.M.Medium.spec k).at_tick in
          wrote_by m g.A.App.served (g.M.Medium.spec k) own _ _ _ _ _ _ (calls_after acts slot)
          (wrote_then m g.A.App.served (g.M.Medium.spec k) own (acts ++ calls slot) (OfNode (Periodic slot) ∷ []) _ _ _ _ _ _
          (inv.wrote k m own) (reported.ok k m own));
      calm = reported.cause.same ∙ inv.calm;
    }

pub returns-clause-ok : goal.returns-clause-ok
returns-clause-ok g c = λ k m own.
    let all : 10 ≡ c.loop-slot.slot = omega arith in
    wrote_by m g.A.App.served (g.M.Medium.spec k) own _ _ _ _ _ _ (ap (λ i. map OfMedium (g.M.Medium.spec k).at_tick ++ calls i) all)
    (c.loop-slot.invariant.wrote k m own)
