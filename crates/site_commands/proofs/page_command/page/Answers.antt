use Rattle.site_commands.proofs.PageEnds.{page_ends}
use Rattle.site_commands.proofs.Prelude.{work_view}
use Rattle.site_commands.proofs.page_command.page.Goals as goal

pub returns-in-Ok-clause-ends : goal.returns-in-Ok-clause-ends
returns-in-Ok-clause-ends g c =
    page_ends c.args.name.now c.args.target.now
    (work_view g.H.Shelf g.K.Sink c.args.shelf.now c.args.out.now)
    (work_view g.H.Shelf g.K.Sink c.open.new.shelf c.write_page.new.out)
    c.in-Ok.site c.write_page.result c.in-Ok.ensures.opens c.write_page.ensures
