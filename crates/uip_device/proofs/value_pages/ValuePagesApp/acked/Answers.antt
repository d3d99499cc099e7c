use Rattle.uip_device.proofs.Prelude.{ap, ◌+◌, sym, subst, CanSupply, record_text, words, SiteContent, files_of, web_spec_by, WebContent}
use Rattle.uip_device.proofs.Prelude.{CompactRepresent}
use Rattle.uip_device.proofs.value_pages.ValuePagesApp.acked.Goals as goal

pub pass-requires : goal.pass-requires
pass-requires c =
    subst (λ (site : SiteContent). CanSupply (λ site. web_spec_by words (files_of site)) (CompactRepresent words record_text)
    c.args.self.now.pages site c.args.count)
    (sym (ap (λ (w : WebContent). w.site) c.web.view_is)) c.requires

pub returns-clause-part : goal.returns-clause-part
returns-clause-part c = λ p s.
    subst (λ (site : SiteContent). CompactRepresent words record_text c.pass.new.self site
    (record p { acked = p.acked + c.args.count; polls = 0 })) (ap (λ (w : WebContent). w.site) c.web.view_is)
    (c.pass.ensures p (subst (λ (site : SiteContent). CompactRepresent words record_text c.args.self.now.pages site p)
    (sym (ap (λ (w : WebContent). w.site) c.web.view_is)) s))
