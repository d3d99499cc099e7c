-- The text that is left is the same for all states of a value.
use Rattle.std.specs.Prelude.{ℕ, ◌≡◌, List, [], drop}
use Rattle.std.proofs.Common.{refl, sym, ap, ◌∙◌, append-nil}
use Rattle.std.proofs.Math.Seq.{drop-nil}
use Rattle.app_events.specs.Prelude.{AppState, text_left}
use Rattle.site_image.specs.Prelude.{File}
use Rattle.file_tree.specs.Prelude.{SiteContent, files_of}
use Rattle.web_pages.specs.Prelude.{Wanted, wanted, NotYet, Refused, reply_pieces_by, page_for_by}
use Rattle.web_pages.specs.Prelude.{text_by, web_spec, web_spec_by, method_open, target_open}
use Rattle.generators.specs.Prelude.{ScriptFunctions, uip, capture_text}
use Rattle.httpd.specs.declared.stage.Stage.{Stage}
use Rattle.httpd.specs.declared.stage.Stage.TheVariants as stage
use Rattle.httpd.specs.First.{Httpd}
use Rattle.httpd.specs.declared.httpd.Pages.{Pages}
use Rattle.httpd.specs.Reply.{left_from, reply_by}
use Rattle.httpd.specs.HttpdRepresents.{HttpdRepresents, PagesRepresent, IsRepresentedIn}

-- the text that a value has left
abbrev pub left_in : {F R : Type 0} → ScriptFunctions F → (R → List ℕ) → Pages R → SiteContent → Stage → List ℕ
left_in g text a site stage.Method = []
left_in g text a site stage.Target = []
left_in g text a site stage.Refused = []
left_in g text a site (stage.Reply found) = text_by g (files_of site) (left_from (reply_by g text site found a.capture) a.thread) []

drop_none : (n : ℕ) → drop {A = ℕ} n [] ≡ []
drop_none n = drop-nil n

nothing_left : {F : Type 0} (g : ScriptFunctions F) (files : List File) (part : AppState) (w : Wanted) → wanted part.input ≡ w
    → page_for_by g files w part.snapshots ≡ []
    → text_left (web_spec_by g files) part ≡ []
nothing_left g files part w e none =
    ap (λ v. drop part.acked (page_for_by g files v part.snapshots)) e
    ∙ ap (λ xs. drop part.acked xs) none
    ∙ drop_none part.acked

-- the text that a state has left
abbrev left_at : {F : Type 0} → ScriptFunctions F → SiteContent → AppState → List ℕ
left_at g site part = text_left (web_spec_by g (files_of site)) part

left_by : {F R : Type 0} (g : ScriptFunctions F) (text : R → List ℕ) (a : Pages R) (site : SiteContent) (part : AppState) (s : Stage)
    → IsRepresentedIn g text a site part s → left_at g site part ≡ left_in g text a site s
left_by g text a site part stage.Method (received, nothing) =
    nothing_left g (files_of site) part NotYet (method_open part.input received.goes_on) refl
left_by g text a site part stage.Target (received, nothing) =
    nothing_left g (files_of site) part NotYet (target_open part.input received.method_ended received.method received.goes_on) refl
left_by g text a site part stage.Refused (refused, nothing) = nothing_left g (files_of site) part Refused refused refl
left_by g text a site part (stage.Reply found) (name, is) =
    ap (λ w. drop part.acked (page_for_by g (files_of site) w part.snapshots)) is.wanted
    ∙ ap (λ ks. drop part.acked (text_by g (files_of site) (reply_pieces_by g.function_table.named (files_of site) name) ks))
    (sym (append-nil part.snapshots))
    ∙ sym (is.left.text [])

-- the text that is left, by the value alone
pub left_of_value : {F R : Type 0} (g : ScriptFunctions F) (text : R → List ℕ) (a : Pages R) (site : SiteContent) (part : AppState)
    → PagesRepresent g text a site part
    → text_left (web_spec_by g (files_of site)) part ≡ left_in g text a site a.stage
left_of_value g text a site part s = left_by g text a site part a.stage s.represented

pub same_left_by : {F R : Type 0} (g : ScriptFunctions F) (text : R → List ℕ) (a : Pages R) (site : SiteContent) (p q : AppState)
    → PagesRepresent g text a site p → PagesRepresent g text a site q
    → text_left (web_spec_by g (files_of site)) p ≡ text_left (web_spec_by g (files_of site)) q
same_left_by g text a site p q s t = left_of_value g text a site p s ∙ sym (left_of_value g text a site q t)

-- where the functions are those of uIP
pub same_left : (a : Httpd) (site : SiteContent) (p q : AppState) → HttpdRepresents a site p → HttpdRepresents a site q
    → text_left (web_spec (files_of site)) p ≡ text_left (web_spec (files_of site)) q
same_left = same_left_by uip capture_text
