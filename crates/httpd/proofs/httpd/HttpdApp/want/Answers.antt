use Rattle.httpd.proofs.Prelude.{ap, sym, subst, IsRepresented, SiteContent, WebContent, HttpdRepresents}
use Rattle.httpd.proofs.httpd.HttpdApp.want.Goals as goal

pub want_of-requires : goal.want_of-requires
want_of-requires c = subst (λ (site : SiteContent). IsRepresented HttpdRepresents c.args.self.now site)
    (sym (ap (λ (w : WebContent). w.site) c.shared.view_is)) c.requires
