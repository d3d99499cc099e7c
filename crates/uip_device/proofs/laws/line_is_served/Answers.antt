use Rattle.uip_device.proofs.AnswerLaws.{line_served}
use Rattle.uip_device.proofs.laws.line_is_served.Goals as goal

pub returns : goal.returns
returns g c = λ m gives numbers own rules pace items all old new fresh bring answered none. line_served g.A.App m gives numbers own rules
    all old new fresh answered pace items bring none
