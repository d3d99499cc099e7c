use Rattle.uip_device.proofs.laws.value_pages_answer.Goals as goal
use Rattle.uip_device.proofs.Answering.{pages_without_values, value_pages_answer}

pub returns : goal.returns
returns c = record { answers = value_pages_answer; none = pages_without_values }
