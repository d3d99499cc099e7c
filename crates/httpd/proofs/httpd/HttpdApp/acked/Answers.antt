use Rattle.httpd.proofs.Prelude.{ap, ◌+◌, sym, subst, CanSupply, SiteContent, files_of, web_spec, WebContent, HttpdRepresents}
use Rattle.httpd.proofs.httpd.HttpdApp.acked.Goals as goal

pub pass-requires : goal.pass-requires
pass-requires c =
    subst (λ (site : SiteContent). CanSupply (λ site. web_spec (files_of site)) HttpdRepresents c.args.self.now site c.args.count)
    (sym (ap (λ (w : WebContent). w.site) c.shared.view_is)) c.requires

pub returns-clause-part : goal.returns-clause-part
returns-clause-part c = λ p s.
    subst (λ (site : SiteContent). HttpdRepresents c.pass.new.self site (record p { acked = p.acked + c.args.count; polls = 0 }))
    (ap (λ (w : WebContent). w.site) c.shared.view_is)
    (c.pass.ensures p (subst (λ (site : SiteContent). HttpdRepresents c.args.self.now site p) (sym (ap (λ (w : WebContent). w.site) c.shared.view_is)) s))
