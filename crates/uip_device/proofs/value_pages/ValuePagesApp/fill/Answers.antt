use Rattle.uip_device.proofs.Prelude.{ap, length, sym, subst, CanSupply, record_text, words, SiteContent, files_of, web_spec_by, WebContent}
use Rattle.uip_device.proofs.Prelude.{CompactRepresent}
use Rattle.uip_device.proofs.value_pages.ValuePagesApp.fill.Goals as goal

pub fill_from-requires : goal.fill_from-requires
fill_from-requires c =
    subst (λ (site : SiteContent). CanSupply (λ site. web_spec_by words (files_of site)) (CompactRepresent words record_text)
    c.args.self.now.pages site (length c.args.out.now))
    (sym (ap (λ (w : WebContent). w.site) c.web.view_is)) c.requires
