-- One thing more.
use Rattle.generators.proofs.Prelude.{ℕ, List, ◌++◌, ◌≡◌, ◌≤◌, ◌+◌, ◌*◌, arith, flat_map, length, length-append, take, sym, ap, ◌∙◌}
use Rattle.generators.proofs.Prelude.{mul-le-mul_left}
use Rattle.generators.proofs.written.put_all.Goals as goal
use Rattle.generators.proofs.Pasting.{flat_map_next, holds_joined}

pub put_needed-come-requires : goal.put_needed-come-requires
put_needed-come-requires g c =
    let room : g.T.Written.longest * (c.loop-item.item-index + 1) ≤ g.T.Written.longest * length c.args.items.now =
    mul-le-mul_left g.T.Written.longest (let h : c.loop-item.item-index + 1 ≤ length c.args.items.now = omega arith in h) in
    omega (arith, c.loop-item.invariant.so_far, c.loop-item.invariant.bound, room, c.requires)

pub loop-item-preserved : goal.loop-item-preserved
loop-item-preserved g c =
    let before : List ℕ = flat_map g.T.Written.text (take c.loop-item.item-index c.args.items.now) in
    let own : List ℕ = g.T.Written.text c.item-item.result in
    let next : List ℕ = flat_map g.T.Written.text (take (c.loop-item.item-index + 1) c.args.items.now) in
    let joined : before ++ own ≡ next = flat_map_next g.T.Written.text c.args.items.now c.loop-item.item-index c.item-item.result
    c.loop-item-test.true c.item-item.is in
    let long : length next ≡ length before + length own = sym (ap length joined) ∙ length-append before own in
    record {
      at = c.put_needed-come.ensures.at ∙ c.loop-item.invariant.at;
      so_far = omega (arith, c.put_needed-come.ensures.so_far, c.loop-item.invariant.so_far, long);
      bound = omega (arith, c.put_needed-come.ensures.bound, c.loop-item.invariant.bound, long);
      part = λ text h. holds_joined text before own next c.put_needed-come.result c.put_needed-come.new.out
          (c.put_needed-come.ensures.part (text ++ before) (c.loop-item.invariant.part text h)) joined;
    }
