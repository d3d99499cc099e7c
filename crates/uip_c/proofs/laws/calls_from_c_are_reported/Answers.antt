use Rattle.uip_c.proofs.HandleLaws.{c_datagrams, c_line, c_represents}
use Rattle.uip_c.proofs.laws.calls_from_c_are_reported.Goals as goal

pub returns : goal.returns
returns c = record { line = c_line; datagrams = c_datagrams; represented = c_represents }
