use Rattle.ethernet_arp.proofs.Prelude.{arith}
use Rattle.ethernet_arp.proofs.TableLaws.{known_is, unknown_is, found_in, none_in}
use Rattle.ethernet_arp.proofs.arp.Arp.known.Goals as goal

pub returns-then-place-lt-ARP_ENTRIES-clause-known : goal.returns-then-place-lt-ARP_ENTRIES-clause-known
returns-then-place-lt-ARP_ENTRIES-clause-known c = λ acts k.
    known_is c.args.self.now acts c.args.addr.0 c.place_of-place.result _ k c.place_of-place.ensures (omega arith)

pub returns-then-place-lt-ARP_ENTRIES-clause-table : goal.returns-then-place-lt-ARP_ENTRIES-clause-table
returns-then-place-lt-ARP_ENTRIES-clause-table c =
    found_in c.args.self.now c.args.addr.0 c.place_of-place.result _ c.place_of-place.ensures (omega arith)

pub returns-else-place-lt-ARP_ENTRIES-clause-known : goal.returns-else-place-lt-ARP_ENTRIES-clause-known
returns-else-place-lt-ARP_ENTRIES-clause-known c = λ acts k.
    unknown_is c.args.self.now acts c.args.addr.0 c.place_of-place.result k c.place_of-place.ensures (omega arith)

pub returns-else-place-lt-ARP_ENTRIES-clause-table : goal.returns-else-place-lt-ARP_ENTRIES-clause-table
returns-else-place-lt-ARP_ENTRIES-clause-table c =
    none_in c.args.self.now c.args.addr.0 c.place_of-place.result c.place_of-place.ensures (omega arith)
