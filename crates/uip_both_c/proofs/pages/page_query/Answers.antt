use Rattle.uip_both_c.proofs.pages.page_query.Goals as goal

pub returns : goal.returns
returns c = rw (← c.node.view_is) c.read_query.ensures
