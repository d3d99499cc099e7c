use Rattle.uip_edge.proofs.Prelude.{ap, sym}
use Rattle.uip_edge.proofs.Runs.{rest_moved}
use Rattle.uip_edge.proofs.mem_link.MemLinkLink.next.Goals as goal

pub returns-clause-items : goal.returns-clause-items
returns-clause-items c =
    rest_moved c.self.inside.at c.count_of.result _ c.self.inside.items.items c.args.self.now.left c.rest.result.now _
    (sym (ap (λ v. v.left) c.self.view_is)) c.rest.ensures c.count_of.ensures c.copy_items-got.ensures.items
