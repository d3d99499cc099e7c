use Rattle.serve_loop.proofs.Prelude.{◌≡◌, ◌++◌, [], ◌∙◌, List, ℕ, length, take, refl, sym, subst, append-nil, append_assoc, eqb-true}
use Rattle.serve_loop.proofs.Prelude.{moved_on, on_err, HasTaken}
use Rattle.serve_loop.proofs.PrefixLaws.{all_in_prefix, after_broke, after_wrote}
use Rattle.serve_loop.proofs.RunLaws.{wrote_none}
use Rattle.serve_loop.proofs.line_turn.feed_bytes.Goals as goal

pub loop-rest-init : goal.loop-rest-init
loop-rest-init g c = record {
  prefix = [];
  pieces = refl;
  same = refl;
  taken = λ k pace before h. rw append-nil h;
  wrote = λ k pace before h m own. wrote_none m g.A.App.served (g.M.Medium.spec k) own _ _ _ (λ n p. p);
  calm = refl;
}

pub returns-in_err-count-clause-err : goal.returns-in_err-count-clause-err
returns-in_err-count-clause-err g c =
    let inv = c.loop-rest.invariant in
    on_err _ (after_broke g.M.Medium.spec g.A.App.served _ (λ k before. g.M.Medium.fed c.loop-rest.medium k before) _ _ inv.prefix inv.taken
    _ _ _ _ _ _ inv.wrote c.args.bytes.now c.loop-rest.rest.now inv.pieces c.in_err-count.ensures.err)

pub loop-rest-preserved : goal.loop-rest-preserved
loop-rest-preserved g c =
    let inv = c.loop-rest.invariant in
    let step = c.in_ok-count in
    let part = take step.count c.loop-rest.rest.now in
    record {
      prefix = inv.prefix ++ part;
      pieces = moved_on _ inv.prefix c.loop-rest.rest.now step.count inv.pieces;
      same = step.ensures.same ∙ inv.same;
      taken = λ k pace before h. rw (← append_assoc before inv.prefix part) (step.ensures.taken k pace (before ++ inv.prefix) (inv.taken k pace before h));
      wrote = after_wrote g.M.Medium.spec g.A.App.served _ (λ k before. g.M.Medium.fed c.loop-rest.medium k before) _ _ inv.prefix inv.taken
          _ _ _ _ _ _ inv.wrote part step.ensures.ok;
      calm = step.ensures.cause.same ∙ inv.calm;
    }

pub returns-clause-taken : goal.returns-clause-taken
returns-clause-taken g c = λ k pace before h.
    let inv = c.loop-rest.invariant in
    let none : length c.loop-rest.rest.now ≡ 0 = eqb-true _ _ (sym c.loop-rest-test.ensures) in
    subst (λ (l : List ℕ). HasTaken pace (before ++ l) (g.M.Medium.fed c.loop-rest.medium k) c.loop-rest.pacer)
    (sym (all_in_prefix _ _ _ inv.pieces none)) (inv.taken k pace before h)
