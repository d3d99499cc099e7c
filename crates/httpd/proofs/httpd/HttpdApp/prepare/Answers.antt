use Rattle.httpd.proofs.Prelude.{ℕ, List, [], ◌++◌, append-nil, ap, sym, subst, ◌∙◌, IsRepresented, SiteContent, files_of, web_spec}
use Rattle.httpd.proofs.Prelude.{WebContent, HttpdRepresents}
use Rattle.httpd.proofs.httpd.HttpdApp.prepare.Goals as goal

pub prepare_at-requires-clause-part : goal.prepare_at-requires-clause-part
prepare_at-requires-clause-part c = subst (λ (site : SiteContent). IsRepresented HttpdRepresents c.args.self.now site)
    (sym (ap (λ (w : WebContent). w.site) c.shared.view_is)) c.requires

pub returns : goal.returns
returns c = λ p s.
    let hits = append-nil c.deref.result.now ∙ c.deref.ensures.value ∙ ap (λ (w : WebContent). w.hits) c.shared.view_is in
    subst (λ (numbers : List ℕ). HttpdRepresents c.prepare_at.new.self c.args.shared.now.site
    ((web_spec (files_of c.args.shared.now.site)).prepare numbers p c.args.now.now)) hits
    (subst (λ (site : SiteContent). HttpdRepresents c.prepare_at.new.self site
    ((web_spec (files_of site)).prepare (c.deref.result.now ++ []) p c.args.now.now)) (ap (λ (w : WebContent). w.site) c.shared.view_is)
    (c.prepare_at.ensures p (subst (λ (site : SiteContent). HttpdRepresents c.args.self.now site p)
    (sym (ap (λ (w : WebContent). w.site) c.shared.view_is)) s)))
