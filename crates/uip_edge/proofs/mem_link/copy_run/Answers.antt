use Rattle.uip_edge.proofs.Prelude.{◌≡◌, ◌≤◌, ◌<◌, length, arith, byte_run}
use Rattle.uip_edge.proofs.Runs.{run_to_quiet, run_to_end}
use Rattle.uip_edge.proofs.mem_link.copy_run.Goals as goal

pub returns-in-Quiet-clause-count : goal.returns-in-Quiet-clause-count
returns-in-Quiet-clause-count c =
    let at = c.loop-at.at in
    let items = c.args.items.now in
    let room : at ≤ length c.loop-at.buf = omega arith in
    let inside : at < length items = omega arith in
    let run : byte_run items ≡ at = run_to_quiet at items c.loop-at.buf _ c.loop-at.invariant room inside c.in-Quiet.is in
    omega (arith, run, room)

pub returns-clause-count : goal.returns-clause-count
returns-clause-count c = run_to_end c.args.items.now c.loop-at.buf c.loop-at.at _ (omega arith) (omega arith) c.loop-at.invariant
