use Rattle.ethernet_arp.proofs.Prelude.{ap, sym, subst, ◌≡◌, Knows, host_of, Arp}
use Rattle.ethernet_arp.proofs.ServingLaws.{serves_reported}
use Rattle.ethernet_arp.proofs.TableLaws.{knows_same}
use Rattle.ethernet_arp.proofs.ether_loop.serve_ether.Goals as goal

pub returns-clause-serves : goal.returns-clause-serves
returns-clause-serves g c =
    let line = c.new-line.result in
    let host : host_of line.arp ≡ host_of c.args.arp.now = ap (λ (a : Arp). host_of a) c.new-line.ensures.arp in
    serves_reported g.A.App _ _ _ _ _ _ _
    (λ acts k. (host, subst (λ (a : Arp). Knows a acts) (sym c.new-line.ensures.arp) k))
    (λ acts d. knows_same _ _ acts c.learn_all.ensures.knows d.1)
    c.args.pace c.args.items _ _ _ (c.serve_over-end.ensures.serves (host_of c.args.arp.now) (host, c.new-line.ensures.part))
