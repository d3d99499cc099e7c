use Rattle.uip_both_c.proofs.Prelude.{List, ap, files_of, hits_of, ℕ, ◌∙◌}
use Rattle.uip_both_c.proofs.PageNumbers.{page_numbers}
use Rattle.uip_both_c.proofs.pages.page_hits.Goals as goal

pub returns : goal.returns
returns c = rw (← c.node.view_is) (λ n represented.
    c.hits.ensures ∙ ap (λ (l : List ℕ). hits_of (files_of c.node.inside.shared.first.web.site) l c.args.name.now)
    (page_numbers _ _ n.numbers represented.numbers_represented))
