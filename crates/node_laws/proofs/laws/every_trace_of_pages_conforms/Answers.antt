use Rattle.node_laws.proofs.laws.every_trace_of_pages_conforms.Goals as goal
use Rattle.node_laws.proofs.EveryTraceConforms.{every_trace_of_pages_conforms}

pub returns : goal.returns
returns c = every_trace_of_pages_conforms
