use Rattle.uip_device.proofs.Prelude.{List, ℕ, ap, ◌∙◌, files_of, hits_of}
use Rattle.uip_device.proofs.web_device.node_hits.Goals as goal

pub returns : goal.returns
returns c = rw (← c.node.view_is) (λ n represented.
    c.hits.ensures ∙ ap (λ (l : List ℕ). hits_of (files_of c.node.inside.shared.web.site) l c.args.name.now) represented.numbers_represented)
