use Rattle.uip_device.proofs.Prelude.{◌++◌, ap, subst, sym, ◌∙◌, CompactRepresent, SiteContent, files_of, record_text, wanted, words}
use Rattle.uip_device.proofs.Prelude.{kept_query, place_wanted, query_in}
use Rattle.uip_device.proofs.QueryLaws.{after_first, after_later}
use Rattle.uip_device.proofs.value_pages.receive.Goals as goal

pub returns-then-first-clause-query : goal.returns-then-first-clause-query
returns-then-first-clause-query c = λ p s.
    let piece = c.args.piece.now in
    let hits = c.take_piece.new.web.hits in
    let old = c.args.shared.now.query in
    let first = c.is_first-first.ensures.first c.if-first.true c.args.shared.now.web.site p s in
    c.keep.ensures (record p { input = p.input ++ piece; polls = 0 })
    (subst (λ (site : SiteContent). CompactRepresent words record_text c.take_piece.new.pages site (record p { input = p.input ++ piece; polls = 0 }))
    (sym c.take_piece.ensures.site) (c.take_piece.ensures.part p s)) (ap (λ d. d ++ piece) first)
    ∙ ap (λ (site : SiteContent). kept_query hits old (place_wanted (files_of site) (wanted piece)) (query_in piece)) c.take_piece.ensures.site
    ∙ sym (after_first (files_of c.args.shared.now.web.site) hits old p.input piece first)

pub returns-else-first-clause-query : goal.returns-else-first-clause-query
returns-else-first-clause-query c = λ p s.
    sym (after_later (files_of c.args.shared.now.web.site) c.take_piece.new.web.hits c.args.shared.now.query p.input c.args.piece.now
    (c.is_first-first.ensures.later c.if-first.false c.args.shared.now.web.site p s))
