use Rattle.uipd.proofs.Prelude.{rules, ◌≤◌, ◌++◌, arith, length-append, length, length-take, take, Consumes-trans}
use Rattle.uipd.proofs.ReadLaws.{read_fits, read_took}
use Rattle.uipd.proofs.file_shelf.pass.Goals as goal

pub loop-left-preserved : goal.loop-left-preserved
loop-left-preserved g c =
    let inv = c.loop-left.invariant in
    let n = c.in_ok-count.count in
    let buf = c.read.new.buf in
    let fits : n ≤ length buf = read_fits c.read.result n buf c.in_ok-count.ensures.value c.read.ensures.bound in
    let few : n ≤ c.loop-left.left = search rules in
    record {
      dropped = inv.dropped ++ take n buf;
      consumed = Consumes-trans _ _ _ _ _ inv.consumed (read_took _ _ c.read.result n buf c.in_ok-count.ensures.value c.read.ensures.bytes).0;
      sum = omega (arith, inv.sum, few, fits, length-append inv.dropped (take n buf), length-take n buf);
    }
