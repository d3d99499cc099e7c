use Rattle.uip_device.proofs.Prelude.{◌++◌, ◌∙◌, ◌-◌, arith, drop, length, length-drop, length-take, refl, sym, ap, take, take-append-drop}
use Rattle.uip_device.proofs.Prelude.{take_rest, moved_on, rest_text}
use Rattle.uip_device.proofs.HandLaws.{prefix_put}
use Rattle.uip_device.proofs.pending_output.write_on.Goals as goal

pub loop-out-init : goal.loop-out-init
loop-out-init c =
    let whole = c.args.datagram.now in
    let at = c.args.at in
    let rest = take_rest whole at in
    record {
      prefix = take at whole;
      pieces = sym (ap (λ l. take at whole ++ l) rest ∙ take-append-drop at whole);
      made = ap (λ l. take c.args.len c.args.out.now ++ rest_text l) rest;
      long = refl;
      fits = c.requires.room;
      grows = omega arith;
      bound = omega (arith, ap (λ l. length l) rest, length-drop at whole);
    }

pub loop-out-preserved : goal.loop-out-preserved
loop-out-preserved c =
    let inv = c.loop-out.invariant in
    let rest = c.loop-out.rest.now in
    let n = c.put_some-run.result.count in
    let run = c.put_some-run.ensures in
    let later = take (length rest - n) (drop n rest) in
    let parts = sym (ap (λ l. take n rest ++ l) (take_rest rest n) ∙ take-append-drop n rest) in
    record {
      prefix = inv.prefix ++ take n rest;
      pieces = moved_on _ inv.prefix rest n inv.pieces;
      made = prefix_put (take c.loop-out.end c.loop-out.out) _ rest (take n rest) later run.text parts ∙ inv.made;
      long = run.long ∙ inv.long;
      fits = run.fits;
      grows = omega (arith, inv.grows, run.grows);
      bound = omega (arith, inv.bound, run.bound, run.within, length-take (length rest - n) (drop n rest), length-drop n rest);
    }
