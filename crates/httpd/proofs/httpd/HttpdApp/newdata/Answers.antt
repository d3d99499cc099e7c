use Rattle.httpd.proofs.Prelude.{◌++◌, ap, sym, subst, ◌∙◌, arith, SiteContent, wanted, WebContent, HttpdRepresents}
use Rattle.httpd.proofs.Finding.{hits_left}
use Rattle.httpd.proofs.httpd.HttpdApp.newdata.Goals as goal

pub returns-clause-part : goal.returns-clause-part
returns-clause-part c = λ p s.
    let is = ap (λ (w : WebContent). w.site) c.shared.view_is in
    subst (λ (site : SiteContent). HttpdRepresents c.take_piece.new.self site (record p { input = p.input ++ c.args.piece.now; polls = 0 })) is
    (c.take_piece.ensures.part p (subst (λ (site : SiteContent). HttpdRepresents c.args.self.now site p) (sym is) s))

pub returns-clause-numbers : goal.returns-clause-numbers
returns-clause-numbers c = λ p s.
    let is = ap (λ (w : WebContent). w.site) c.shared.view_is in
    hits_left c.take_piece.new.hits c.shared.inside.hits.items _ _ _ _ _ (wanted p.input) (wanted (p.input ++ c.args.piece.now))
    (omega (arith, c.deref_mut.ensures.len, c.take_piece.auto.hits))
    (c.take_piece.ensures.hits p (subst (λ (site : SiteContent). HttpdRepresents c.args.self.now site p) (sym is) s)) is
    (c.deref_mut.ensures.value ∙ ap (λ (w : WebContent). w.hits) c.shared.view_is)
