use Rattle.uip_device.proofs.Prelude.{ap, sym, subst, IsRepresented, record_text, words, SiteContent, WebContent, CompactRepresent}
use Rattle.uip_device.proofs.value_pages.ValuePagesApp.want.Goals as goal

pub want_of-requires : goal.want_of-requires
want_of-requires c =
    subst (λ (site : SiteContent). IsRepresented (CompactRepresent words record_text) c.args.self.now.pages site)
    (sym (ap (λ (w : WebContent). w.site) c.web.view_is)) c.requires
