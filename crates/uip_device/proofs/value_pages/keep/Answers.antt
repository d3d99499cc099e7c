use Rattle.uip_device.proofs.Prelude.{◌≡◌, ℕ, List, ap, subst, sym, ◌∙◌, CompactRepresent, option_map, FileId, files_of, record_text}
use Rattle.uip_device.proofs.Prelude.{wanted, words, kept_query, kept_text, place_wanted, query_in, text_after_mark, target_of}
use Rattle.uip_device.proofs.QueryLaws.{reply_keeps}
use Rattle.uip_device.proofs.value_pages.keep.Goals as goal

pub returns-in-Replying : goal.returns-in-Replying
returns-in-Replying c = λ p s same.
    let site = c.args.web.now.site in
    let hits = c.args.web.now.hits in
    let old = c.args.query.now in
    let represented = subst (λ v. CompactRepresent words record_text v site p) c.in-Replying.is s in
    subst (λ (d : List ℕ). c.keep_for.new.query ≡ kept_query hits old (place_wanted (files_of site) (wanted d)) (query_in d)) same
    (c.keep_for.ensures
    ∙ ap (λ d. kept_query hits old (option_map (λ (id : FileId). id.0) c.in-Replying.found) (kept_text (text_after_mark (target_of d)))) (sym same)
    ∙ sym (reply_keeps words record_text site p c.in-Replying.polls hits old c.in-Replying.found c.in-Replying.thread c.in-Replying.capture
    c.see_apart.ensures represented))
