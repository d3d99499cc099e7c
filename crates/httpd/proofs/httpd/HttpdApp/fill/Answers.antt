use Rattle.httpd.proofs.Prelude.{ap, length, sym, subst, CanSupply, SiteContent, files_of, web_spec, WebContent, HttpdRepresents}
use Rattle.httpd.proofs.httpd.HttpdApp.fill.Goals as goal

pub fill_from-requires : goal.fill_from-requires
fill_from-requires c =
    subst (λ (site : SiteContent). CanSupply (λ site. web_spec (files_of site)) HttpdRepresents c.args.self.now site
    (length c.args.out.now)) (sym (ap (λ (w : WebContent). w.site) c.shared.view_is)) c.requires
