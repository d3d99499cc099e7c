use Rattle.uip_device.proofs.Prelude.{◌<◌, List, ℕ, ◌++◌, None, Some, length, ap, sym, subst, ◌∙◌, get_or, get_or_append_left}
use Rattle.uip_device.proofs.Prelude.{get_or_default_zero, files_of, WebContent}
use Rattle.uip_device.proofs.WebLaws.{hits_at}
use Rattle.uip_device.proofs.device_web.DeviceWeb.hits.Goals as goal

pub returns-in-Some : goal.returns-in-Some
returns-in-Some c =
    let web = c.args.self.now.web in
    let hits : List ℕ = c.web.inside.hits.items in
    let values : List ℕ = c.args.self.now.values.bytes in
    let id : ℕ = c.in-Some.id.0 in
    let within : id < length hits = subst (λ (w : WebContent). id < length w.hits) (sym c.web.view_is) c.in-Some.ensures.within in
    c.index.ensures
    ∙ get_or_default_zero hits id c.index.result.now within
    ∙ sym (get_or_append_left hits values 0 id within)
    ∙ ap (λ (w : WebContent). get_or (w.hits ++ values) id 0) c.web.view_is
    ∙ hits_at (files_of web.site) (web.hits ++ values) c.args.name.now c.file_in.result (Some c.in-Some.id) c.file_in.ensures.place c.in-Some.is

pub returns-in-None : goal.returns-in-None
returns-in-None c =
    let web = c.args.self.now.web in
    hits_at (files_of web.site) (web.hits ++ c.args.self.now.values.bytes) c.args.name.now c.file_in.result None c.file_in.ensures.place c.in-None.is
