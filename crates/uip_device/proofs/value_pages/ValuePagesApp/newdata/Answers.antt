use Rattle.uip_device.proofs.Prelude.{List, ℕ, ◌++◌, ap, sym, ◌∙◌, files_of, wanted, hits_by_prefix}
use Rattle.uip_device.proofs.value_pages.ValuePagesApp.newdata.Goals as goal

pub returns-clause-numbers : goal.returns-clause-numbers
returns-clause-numbers c = λ p s.
    let web = c.args.shared.now.web in
    let values = c.args.shared.now.values.bytes in
    ap (λ (bytes : List ℕ). c.receive.new.shared.web.hits ++ bytes) c.receive.ensures.values
    ∙ ap (λ hits. hits ++ values) (c.receive.ensures.hits p s)
    ∙ sym (hits_by_prefix (files_of web.site) web.hits values (wanted p.input) (wanted (p.input ++ c.args.piece.now)) c.see_counted.ensures)
