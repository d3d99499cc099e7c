use Rattle.link_replay.proofs.Prelude.{Err, subst, Opens, files_of, LoadFault, WorkView, work_view}
use Rattle.link_replay.proofs.Reported.{load_ends, load_image_ends}
use Rattle.link_replay.proofs.commands.load_command.load.Goals as goal

pub returns-in-Ok-clause-ends : goal.returns-in-Ok-clause-ends
returns-in-Ok-clause-ends g c =
    load_ends c.args.site.now c.args.seed c.args.clients
    (work_view g.H.Shelf g.K.Sink c.args.shelf.now c.args.out.now)
    (work_view g.H.Shelf g.K.Sink c.open.new.shelf c.load_site.new.out)
    c.in-Ok.ensures.kept c.in-Ok.ensures.opens.1 (files_of c.in-Ok.site) c.load_site.result c.in-Ok.ensures.opens.0 c.load_site.ensures

pub returns-in-Err-Bad-clause-ends : goal.returns-in-Err-Bad-clause-ends
returns-in-Err-Bad-clause-ends g c =
    let old : WorkView = work_view g.H.Shelf g.K.Sink c.args.shelf.now c.args.out.now in
    let new : WorkView = work_view g.H.Shelf g.K.Sink c.open.new.shelf c.report_site.new.out in
    let opens = subst (λ (f : LoadFault). Opens c.args.site.now old.shelf.held old.shelf.faults new.shelf.faults (Err f))
    c.in-Err-Bad.field-0-is c.in-Err-Bad.ensures.opens in
    load_image_ends c.args.site.now c.args.seed c.args.clients old new c.in-Err-Bad.ensures.kept opens.1 c.in-Err-Bad.error
    c.report_site.result opens.0 c.report_site.ensures
