use Rattle.httpd.proofs.Prelude.{◌≡◌, ap, sym, subst, IsRepresented, SiteContent, files_of, web_spec, WebContent, HttpdRepresents}
use Rattle.httpd.proofs.httpd.HttpdApp.is_due.Goals as goal

pub is_due_at-requires : goal.is_due_at-requires
is_due_at-requires c = subst (λ (site : SiteContent). IsRepresented HttpdRepresents c.args.self.now site)
    (sym (ap (λ (w : WebContent). w.site) c.shared.view_is)) c.requires

pub returns : goal.returns
returns c = record {
  not_due = λ e p now s.
      let same = ap (λ (w : WebContent). w.site) c.shared.view_is in
      subst (λ (site : SiteContent). (web_spec (files_of site)).prepare c.args.shared.now.hits p now ≡ p) same
      (c.is_due_at.ensures.not_due e c.args.shared.now.hits p now (subst (λ (site : SiteContent). HttpdRepresents c.args.self.now site p) (sym same) s));
}
