use Rattle.link_replay.proofs.Prelude.{ℕ, List, subst, files_of, WritesDue, IsTextDue, work_view, sink_view}
use Rattle.link_replay.proofs.Reported.{schedule_ends}
use Rattle.link_replay.proofs.commands.replay_command.replay_site.Goals as goal

pub returns-in-Ok-clause-ends : goal.returns-in-Ok-clause-ends
returns-in-Ok-clause-ends g c = λ name read.
    schedule_ends name c.args.schedule.now c.args.show
    (work_view g.H.Shelf g.K.Sink c.args.shelf.now c.args.out.now)
    (work_view g.H.Shelf g.K.Sink c.read_file.new.shelf c.play_text.new.out)
    c.in-Ok.ensures.kept c.in-Ok.ensures.cause (files_of c.args.site) c.in-Ok.text.items c.play_text.result read c.in-Ok.ensures.bytes
    (subst
    (λ (bytes : List ℕ). WritesDue (IsTextDue (files_of c.args.site) bytes c.args.show) (sink_view g.K.Sink c.args.out.now)
    (sink_view g.K.Sink c.play_text.new.out) c.play_text.result)
    c.deref.ensures.value c.play_text.ensures)
