use Rattle.link_replay.proofs.Reported.{image_ends}
use Rattle.link_replay.proofs.Prelude.{work_view}
use Rattle.link_replay.proofs.commands.replay_command.refuse_site.Goals as goal

pub returns-in-Ok-clause-ends : goal.returns-in-Ok-clause-ends
returns-in-Ok-clause-ends g c = λ show name read.
    image_ends name c.args.schedule.now show
    (work_view g.H.Shelf g.K.Sink c.args.shelf.now c.args.out.now)
    (work_view g.H.Shelf g.K.Sink c.read_file.new.shelf c.report_site.new.out)
    c.in-Ok.ensures.kept c.in-Ok.ensures.cause c.args.error c.in-Ok._schedule.items c.report_site.result read c.in-Ok.ensures.bytes c.report_site.ensures
