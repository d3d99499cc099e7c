use Rattle.uip_wire.proofs.Prelude.{◌∙◌, arith, length-drop, take_rest}
use Rattle.uip_wire.proofs.sums.wide_sum.Goals as goal

pub longs-preserved : goal.longs-preserved
longs-preserved c = record {
  fits = rw take_rest (omega (arith, length-drop 32 c.longs.rest.now));
  same = rw take_rest (c.block_sum-sum.ensures.same c.longs.sum ∙ c.longs.invariant.same);
}
