use Rattle.uip_device.proofs.Prelude.{◌≡◌, ◌<◌, ℕ, Option, length, option_map, subst, sym, AreApart, FileId, WebContent, files_of}
use Rattle.uip_device.proofs.Prelude.{found_place, place_of, IfSome}
use Rattle.uip_device.proofs.web_device.file_in.Goals as goal

pub returns-clause-place : goal.returns-clause-place
returns-clause-place c =
    let files = files_of c.web.inside.site in
    let name = c.args.name.now in
    let found : Option FileId = c.find.result in
    let apart : AreApart files = c.see_loaded.ensures.loaded.apart in
    subst (λ (w : WebContent). option_map (λ (id : FileId). id.0) found ≡ place_of (files_of w.site) name) c.web.view_is
    (found_place files apart name found c.find.ensures.found c.find.ensures.there)

pub returns-clause-within : goal.returns-clause-within
returns-clause-within c =
    subst (λ (n : ℕ). IfSome c.find.result (λ id. id.0 < n)) (sym c.see_counted.ensures)
    (subst (λ (w : WebContent). IfSome c.find.result (λ id. id.0 < length (files_of w.site))) c.web.view_is c.find.ensures.within)
