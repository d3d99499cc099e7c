use Rattle.uip_device.proofs.laws.web_calls_arrive.Goals as goal
use Rattle.uip_device.proofs.Answering.{web_calls_arrive}

pub returns : goal.returns
returns c = web_calls_arrive
