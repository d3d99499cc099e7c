use Rattle.uip_device.proofs.Prelude.{◌≡◌, ◌++◌, ap, sym, subst, IsRepresented, record_text, words, SiteContent, files_of, web_spec_by}
use Rattle.uip_device.proofs.Prelude.{WebContent, CompactRepresent}
use Rattle.uip_device.proofs.value_pages.ValuePagesApp.is_due.Goals as goal

pub is_due_at-requires : goal.is_due_at-requires
is_due_at-requires c =
    subst (λ (site : SiteContent). IsRepresented (CompactRepresent words record_text) c.args.self.now.pages site)
    (sym (ap (λ (w : WebContent). w.site) c.web.view_is)) c.requires

pub returns : goal.returns
returns c = record {
  not_due = λ e p now s.
      let numbers = c.args.shared.now.web.hits ++ c.args.shared.now.values.bytes in
      let same = ap (λ (w : WebContent). w.site) c.web.view_is in
      subst (λ (site : SiteContent). (web_spec_by words (files_of site)).prepare numbers p now ≡ p) same
      (c.is_due_at.ensures.not_due e numbers p now
      (subst (λ (site : SiteContent). CompactRepresent words record_text c.args.self.now.pages site p) (sym same) s));
}
