use Rattle.uip_both_c.proofs.Prelude.{File, List, ap, hits_of, numbers_of_first, ◌∙◌}
use Rattle.c_calls.proofs.Handles.{read_out}
use Rattle.uip_both_c.proofs.status_calls.uip_hits.Goals as goal

pub returns-in-Some-read_device-clause-fine : goal.returns-in-Some-read_device-clause-fine
returns-in-Some-read_device-clause-fine c = rw c.read_device-read.ensures (λ fine. (
  c.deref.result.now,
  read_out c.deref.result.now c.in-Some-read_device.opened.value _ c.deref.ensures c.in-Some-read_device.ensures.taken,
  λ files own n s. c.page_hits.ensures n s.node.represented ∙ ap (λ (l : List File). hits_of l (numbers_of_first n.numbers) c.args.name.now) s.files_are,
))
