use Rattle.uip_device.proofs.Prelude.{sym, ◌∙◌}
use Rattle.uip_device.proofs.QueryLaws.{mark_after, mark_none}
use Rattle.uip_device.proofs.query.text_after_mark.Goals as goal

pub returns-in-Some : goal.returns-in-Some
returns-in-Some c = mark_after c.args.target.now c.in-Some.mark (sym c.mark_in.ensures ∙ c.in-Some.is)

pub returns-in-None : goal.returns-in-None
returns-in-None c = mark_none c.args.target.now (sym c.mark_in.ensures ∙ c.in-None.is)
