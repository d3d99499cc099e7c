use Rattle.link_replay.proofs.Prelude.{Err, Option, refl, subst, sym, LoadFault, Files, FindsInFiles, Opens, site_read, ReplayEnds}
use Rattle.link_replay.proofs.Prelude.{WorkView, work_view}
use Rattle.link_replay.proofs.Reported.{same_work}
use Rattle.link_replay.proofs.commands.replay_command.replay.Goals as goal

pub returns-in-Err-Bad-clause-ends : goal.returns-in-Err-Bad-clause-ends
returns-in-Err-Bad-clause-ends g c =
    let old : WorkView = work_view g.H.Shelf g.K.Sink c.args.shelf.now c.args.out.now in
    let amid : WorkView = work_view g.H.Shelf g.K.Sink c.open.new.shelf c.args.out.now in
    let new : WorkView = work_view g.H.Shelf g.K.Sink c.refuse_site.new.shelf c.refuse_site.new.out in
    let error = c.in-Err-Bad.error in
    let opens = subst (λ (f : LoadFault). Opens c.args.site.now old.shelf.held old.shelf.faults amid.shelf.faults (Err f))
    c.in-Err-Bad.field-0-is c.in-Err-Bad.ensures.opens in
    let kept = c.in-Err-Bad.ensures.kept in
    subst (λ (d : WorkView). ReplayEnds c.args.site.now c.args.schedule.now c.args.show d new c.refuse_site.result) (same_work old amid kept refl opens.1)
    (c.refuse_site.ensures.ends c.args.show c.args.site.now
    (subst (λ (h : Option Files). FindsInFiles (site_read c.args.site.now) h (Err error)) (sym kept) opens.0))
