use Rattle.ethernet_arp.proofs.Prelude.{[], ◌∙◌, set, ap, arith, get_or, get_or_default, map_over_more, aged}
use Rattle.ethernet_arp.proofs.arp.grow_older.Goals as goal

pub loop-at-preserved : goal.loop-at-preserved
loop-at-preserved c =
    let x = get_or c.loop-at.entries c.loop-at.at (record { addr = record { 0 = [] }; mac = record { 0 = [] }; age = 0 }) in
    ap (set c.loop-at.entries c.loop-at.at) c.older.ensures
    ∙ map_over_more aged c.args.entries.now c.loop-at.entries c.loop-at.at x (omega arith) c.loop-at.invariant
    (get_or_default c.loop-at.entries c.loop-at.at _ x (omega arith))
