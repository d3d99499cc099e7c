use Rattle.uip_device.proofs.Prelude.{is_stop, Space, sym, ◌∙◌}
use Rattle.uip_device.proofs.QueryLaws.{rest_after, rest_none}
use Rattle.uip_device.proofs.query.after_method.Goals as goal

pub returns-in-Some : goal.returns-in-Some
returns-in-Some c = rest_after (is_stop Space) c.args.request.now c.in-Some.end (sym c.space_in.ensures ∙ c.in-Some.is)

pub returns-in-None : goal.returns-in-None
returns-in-None c = rest_none (is_stop Space) c.args.request.now (sym c.space_in.ensures ∙ c.in-None.is)
