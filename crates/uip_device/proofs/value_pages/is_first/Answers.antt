use Rattle.uip_device.proofs.Prelude.{ap, subst, sym, ◌∙◌, CompactRepresent, record_text, words, Line}
use Rattle.uip_device.proofs.QueryLaws.{first_open, no_length}
use Rattle.uip_device.proofs.value_pages.is_first.Goals as goal

pub returns-else-line-clause-first : goal.returns-else-line-clause-first
returns-else-line-clause-first c = λ e site p s.
    let line = c.in-Receiving.line in
    first_open words record_text site p c.in-Receiving.polls c.in-Receiving.target line
    (subst (λ v. CompactRepresent words record_text v site p) c.in-Receiving.is s) c.if-target.false
    (ap (λ (l : Line). l.query) (sym c.line.view_is) ∙ c.if-line.false)
    (ap (λ (l : Line). l.name) (sym c.line.view_is) ∙ no_length c.line.inside.name.items (sym c.is_empty.ensures ∙ e))
