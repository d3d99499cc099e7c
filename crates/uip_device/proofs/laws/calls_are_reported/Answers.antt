use Rattle.uip_device.proofs.AnswerLaws.{datagrams_reported, guard_counted, line_view, node_represents, same_kept}
use Rattle.uip_device.proofs.laws.calls_are_reported.Goals as goal

pub returns : goal.returns
returns g c = record {
  line = line_view g.A.App;
  datagrams = datagrams_reported g.A.App;
  represented = node_represents g.A.App;
  counts = guard_counted g.A.App;
  kept = same_kept g.A.App;
}
