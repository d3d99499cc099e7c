use Rattle.site_commands.proofs.Prelude.{refl, arith, Vec, Global, HeldFile}
use Rattle.site_commands.proofs.GatherLaws.{gathered-all, gathering-more, gathering-stops}
use Rattle.site_commands.proofs.file_list.gather.Goals as goal

pub returns-in-Err-clause-list : goal.returns-in-Err-clause-list
returns-in-Err-clause-list g c =
    gathering-stops (λ (list : Vec HeldFile Global). list.items) c.args.files.now c.loop-named.named-index c.loop-named.room c.loop-named.list.items
    (g.H.Shelf.held c.args.shelf.now) (g.H.Shelf.held c.loop-named.shelf) (g.H.Shelf.faults c.args.shelf.now)
    (g.H.Shelf.faults c.loop-named.shelf) (g.H.Shelf.faults c.push_read.new.shelf)
    c.named-item.result c.in-Err.fault _ refl c.loop-named-test.true c.named-item.is c.loop-named.invariant c.in-Err.ensures.long c.in-Err.ensures.cause

pub loop-named-preserved : goal.loop-named-preserved
loop-named-preserved g c =
    gathering-more c.args.files.now c.loop-named.named-index c.loop-named.room c.in-Ok.left c.loop-named.list.items c.push_read.new.list.items
    (g.H.Shelf.held c.args.shelf.now) (g.H.Shelf.held c.loop-named.shelf) (g.H.Shelf.held c.push_read.new.shelf)
    (g.H.Shelf.faults c.args.shelf.now) (g.H.Shelf.faults c.loop-named.shelf) (g.H.Shelf.faults c.push_read.new.shelf)
    c.named-item.result c.loop-named-test.true c.named-item.is c.loop-named.invariant c.in-Ok.ensures.read c.in-Ok.ensures.left
    c.in-Ok.ensures.kept c.in-Ok.ensures.cause

pub returns-clause-list : goal.returns-clause-list
returns-clause-list g c =
    gathered-all (λ (list : Vec HeldFile Global). list.items) c.loop-named.list c.args.files.now c.loop-named.named-index c.loop-named.room
    (g.H.Shelf.held c.args.shelf.now) (g.H.Shelf.held c.loop-named.shelf) (g.H.Shelf.faults c.args.shelf.now) (g.H.Shelf.faults c.loop-named.shelf)
    (omega (arith, c.loop-named-test.false)) c.loop-named.invariant
