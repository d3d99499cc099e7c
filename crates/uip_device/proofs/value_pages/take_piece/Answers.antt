use Rattle.uip_device.proofs.Prelude.{◌++◌, ap, sym, subst, ◌∙◌, arith, record_text, words, SiteContent, wanted, WebContent, hits_left}
use Rattle.uip_device.proofs.Prelude.{CompactRepresent}
use Rattle.uip_device.proofs.value_pages.take_piece.Goals as goal

pub returns-clause-part : goal.returns-clause-part
returns-clause-part c = λ p s.
    let is = ap (λ (w : WebContent). w.site) c.web.view_is in
    subst (λ (site : SiteContent). CompactRepresent words record_text c.take_piece.new.self site
    (record p { input = p.input ++ c.args.piece.now; polls = 0 })) is
    (c.take_piece.ensures.part p (subst (λ (site : SiteContent). CompactRepresent words record_text c.args.pages.now site p) (sym is) s))

pub returns-clause-hits : goal.returns-clause-hits
returns-clause-hits c = λ p s.
    let is = ap (λ (w : WebContent). w.site) c.web.view_is in
    hits_left c.take_piece.new.hits c.web.inside.hits.items _ _ _ _ _ (wanted p.input) (wanted (p.input ++ c.args.piece.now))
    (omega (arith, c.deref_mut.ensures.len, c.take_piece.auto.hits))
    (c.take_piece.ensures.hits p (subst (λ (site : SiteContent). CompactRepresent words record_text c.args.pages.now site p) (sym is) s)) is
    (c.deref_mut.ensures.value ∙ ap (λ (w : WebContent). w.hits) c.web.view_is)
