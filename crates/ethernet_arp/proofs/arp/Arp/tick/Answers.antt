use Rattle.ethernet_arp.proofs.TableLaws.{knows_ticked}
use Rattle.ethernet_arp.proofs.arp.Arp.tick.Goals as goal

pub returns-clause-knows : goal.returns-clause-knows
returns-clause-knows c = λ acts k. knows_ticked acts c.args.self.now _ c.grow_older.ensures k
