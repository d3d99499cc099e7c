use Rattle.uip_slip.proofs.Prelude.{◌-◌, ◌≤◌, arith, drop, length, length-drop, length-take}
use Rattle.uip_slip.proofs.Copies.{put_prefix}
use Rattle.uip_slip.proofs.plain_runs.put_plain.Goals as goal

pub returns-clause-text : goal.returns-clause-text
returns-clause-text c =
    let out = c.args.out.now in
    let len = c.args.len in
    let run = c.copy_plain.ensures in
    let within : c.copy_plain.result ≤ length c.copy_plain.new.out =
    omega (arith, run.prefix.within, run.long, length-take (length out - len) (drop len out), length-drop len out, c.requires) in
    put_prefix len (length out - len) c.copy_plain.result out c.copy_plain.new.out _ (omega (arith, c.requires)) within run.copied
