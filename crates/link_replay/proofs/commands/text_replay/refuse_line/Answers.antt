use Rattle.link_replay.proofs.Prelude.{ℕ, List, subst, inl, ◌∙◌, WritesEnd, sink_view}
use Rattle.link_replay.specs.declared.commands.replay_end.ReplayEnd.TheVariants as ends
use Rattle.link_replay.proofs.commands.text_replay.refuse_line.Goals as goal

pub returns-in-Ok : goal.returns-in-Ok
returns-in-Ok g c =
    inl
    (subst
    (λ (text : List ℕ). WritesEnd (ends.BadSchedule c.args.line c.args.why) ends.WriteFault (sink_view g.K.Sink c.args.out.now)
    (sink_view g.K.Sink c.write_text.new.out) text c.write_text.result)
    (c.deref.ensures.value ∙ c.in-Ok.ensures) c.write_text.ensures)
