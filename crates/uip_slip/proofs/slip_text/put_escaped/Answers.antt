use Rattle.uip_slip.proofs.Prelude.{◌++◌, ◌∙◌, ◌-◌, arith, drop, length, length-drop, length-take, take, moved_on}
use Rattle.uip_slip.proofs.TextLaws.{escaped_then}
use Rattle.uip_slip.proofs.slip_text.put_escaped.Goals as goal

pub loop-rest-preserved : goal.loop-rest-preserved
loop-rest-preserved c =
    let inv = c.loop-rest.invariant in
    let rest = c.loop-rest.rest.now in
    let step = c.put_prefix-run in
    record {
      prefix = inv.prefix ++ take step.result.count rest;
      pieces = moved_on _ inv.prefix rest step.result.count inv.pieces;
      made = escaped_then _ _ _ inv.prefix (take step.result.count rest) inv.made step.ensures.text;
      long = step.ensures.long ∙ inv.long;
      bound = omega (
        arith,
        inv.bound,
        step.ensures.bound,
        step.ensures.within,
        length-take (length rest - step.result.count) (drop step.result.count rest),
        length-drop step.result.count rest,
      );
    }
