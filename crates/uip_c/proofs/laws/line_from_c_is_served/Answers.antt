use Rattle.uip_c.proofs.HandleLaws.{c_served}
use Rattle.uip_c.proofs.laws.line_from_c_is_served.Goals as goal

pub returns : goal.returns
returns c = λ files own key pace items all old new ready bring answered none. c_served files own key all old new ready answered pace items bring none
