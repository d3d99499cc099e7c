use Rattle.uip_device.proofs.Prelude.{ℕ, List, ◌++◌, ap, sym, subst, ◌∙◌, IsRepresented, record_text, words, SiteContent, files_of}
use Rattle.uip_device.proofs.Prelude.{web_spec_by, WebContent, CompactRepresent}
use Rattle.uip_device.proofs.value_pages.ValuePagesApp.prepare.Goals as goal

pub prepare_at-requires-clause-part : goal.prepare_at-requires-clause-part
prepare_at-requires-clause-part c =
    subst (λ (site : SiteContent). IsRepresented (CompactRepresent words record_text) c.args.self.now.pages site)
    (sym (ap (λ (w : WebContent). w.site) c.web.view_is)) c.requires

pub returns : goal.returns
returns c = λ p s.
    let own = c.args.shared.now.values.bytes in
    let hits = c.deref.ensures.value ∙ ap (λ (w : WebContent). w.hits) c.web.view_is in
    subst (λ (hits : List ℕ). CompactRepresent words record_text c.prepare_at.new.self c.args.shared.now.web.site
    ((web_spec_by words (files_of c.args.shared.now.web.site)).prepare (hits ++ own) p c.args.now.now)) hits
    (subst (λ (site : SiteContent). CompactRepresent words record_text c.prepare_at.new.self site
    ((web_spec_by words (files_of site)).prepare (c.deref.result.now ++ own) p c.args.now.now)) (ap (λ (w : WebContent). w.site) c.web.view_is)
    (c.prepare_at.ensures p (subst (λ (site : SiteContent). CompactRepresent words record_text c.args.self.now.pages site p)
    (sym (ap (λ (w : WebContent). w.site) c.web.view_is)) s)))
