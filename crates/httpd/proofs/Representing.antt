-- The text that a value of the web server can send, for each state that it represents.
-- [add: piece] What a value of the web server can send in the piece.
use Rattle.httpd.proofs.Prelude.{◌≡◌, ℕ, ◌+◌, ◌≤◌, Bool, true, false, List, [], ◌++◌, Option, None, Some, length, drop, refl, sym, ap}
use Rattle.httpd.proofs.Prelude.{subst, ◌∙◌, arith, true≢false, append-nil, length-drop, ∥∥₁_elim, ∥∥₁_map, drop-drop, le_prop}
use Rattle.httpd.proofs.Prelude.{AppState, IsRepresented, CanSupply, File, FileId, SiteContent, files_of, ScriptFunctions}
use Rattle.httpd.proofs.Prelude.{reply_pieces_by, text_by, web_spec_by, Pages, Stage, Thread, Head, Kind, Body, Inside, Making, End}
use Rattle.httpd.proofs.Prelude.{FileReply, body, is_scripted, left_from, reply_by, Fits, IsBodyPlace, IsFound, IsInner, KeepsOn, IsPast}
use Rattle.httpd.proofs.Prelude.{PagesRepresent, IsLeft, IsReplying, IsRepresentedIn, left_in, left_of_value}
use Rattle.httpd.specs.declared.stage.Stage.TheVariants as stage

abbrev pub means : {F : Type 0} → ScriptFunctions F → SiteContent → Rattle.app_events.specs.AppSpec.AppSpec
means g site = web_spec_by g (files_of site)

-- ---- an offset is a number, so it can be taken out of a fact of which no witness is known

body_place_reported : {F : Type 0} (r : FileReply F) (at : ℕ) → ∥ IsBodyPlace r at ∥₁ → IsBodyPlace r at
body_place_reported r at h =
    let inside : at ≤ length (body r) = ∥∥₁_elim h le_prop (λ is. is.within) in
    record {
      within = inside;
      between = λ script opened.
          let over : length (body r) ≤ at = ∥∥₁_elim h le_prop (λ is. omega (arith, is.between script opened)) in
          omega (arith, inside, over);
    }

scripted_reported : (b : Bool) → ∥ (b ≡ true) ∥₁ → b ≡ true
scripted_reported true h = refl
scripted_reported false h = absurd (let never : 1 ≤ 0 = ∥∥₁_elim h le_prop (λ e. absurd (true≢false (sym e))) in omega (arith, never))

inner_reported : {F : Type 0} (r : FileReply F) (next : ℕ) → ∥ IsInner r next ∥₁ → IsInner r next
inner_reported r next h = record {
  script = scripted_reported (is_scripted r.file) (∥∥₁_map h (λ is. is.script));
  goes_on = body_place_reported r next (∥∥₁_map h (λ is. is.goes_on));
}

fits_reported : {F : Type 0} (r : FileReply F) (t : Thread) → ∥ Fits r t ∥₁ → Fits r t
unfolding Fits
fits_reported r (Head at) h = ∥∥₁_elim h le_prop (λ is. is)
fits_reported r (Kind at) h = ∥∥₁_elim h le_prop (λ is. is)
fits_reported r (Body at) h = body_place_reported r at h
fits_reported r (Inside next file at) h =
    (inner_reported r next (∥∥₁_map h (λ is. is.0)), ∥∥₁_elim h le_prop (λ is. is.1), ∥∥₁_elim h le_prop (λ is. is.2))
fits_reported r (Making next at) h = (inner_reported r next (∥∥₁_map h (λ is. is.0)), ∥∥₁_elim h le_prop (λ is. is.1))
fits_reported r End h = tt

found_reported : (files : List File) (found : Option FileId) → ∥ IsFound files found ∥₁ → IsFound files found
found_reported files None h = tt
found_reported files (Some id) h = ∥∥₁_elim h le_prop (λ is. is)

-- ---- while a reply is sent

pub replying : {F R : Type 0} (g : ScriptFunctions F) (text : R → List ℕ) (a : Pages R) (site : SiteContent) (p : AppState)
    (found : Option FileId) → a.stage ≡ stage.Reply found → PagesRepresent g text a site p → (name : List ℕ) × IsReplying g text a site name found p
replying g text a site p found e s = subst (λ st. IsRepresentedIn g text a site p st) e s.represented

pub reply_fits : {F R : Type 0} (g : ScriptFunctions F) (text : R → List ℕ) (a : Pages R) (site : SiteContent) (found : Option FileId)
    → a.stage ≡ stage.Reply found → IsRepresented (PagesRepresent g text) a site → Fits (reply_by g text site found a.capture) a.thread
reply_fits g text a site found e has =
    fits_reported (reply_by g text site found a.capture) a.thread (∥∥₁_map has (λ c. (replying g text a site c.0 found e c.1).1.fits))

pub reply_found : {F R : Type 0} (g : ScriptFunctions F) (text : R → List ℕ) (a : Pages R) (site : SiteContent) (found : Option FileId)
    → a.stage ≡ stage.Reply found → IsRepresented (PagesRepresent g text) a site → IsFound (files_of site) found
reply_found g text a site found e has = found_reported (files_of site) found (∥∥₁_map has (λ c. (replying g text a site c.0 found e c.1).1.there))

pub some_part : {F R : Type 0} (g : ScriptFunctions F) (text : R → List ℕ) (a : Pages R) (site : SiteContent) (n : ℕ)
    → CanSupply (means g) (PagesRepresent g text) a site n → IsRepresented (PagesRepresent g text) a site
some_part g text a site n can = ∥∥₁_map can (λ c. (c.0, c.1))

-- this much can be sent
pub can_supply : {F R : Type 0} (g : ScriptFunctions F) (text : R → List ℕ) (a : Pages R) (site : SiteContent) (n : ℕ) (s : Stage)
    → a.stage ≡ s → CanSupply (means g) (PagesRepresent g text) a site n → n ≤ length (left_in g text a site s)
can_supply g text a site n s e can =
    ∥∥₁_elim can le_prop (λ c. subst (λ t. n ≤ length t) (left_of_value g text a site c.0 c.1 ∙ ap (left_in g text a site) e) c.2)

-- if no reply is being sent, nothing is left
pub quiet : {F R : Type 0} (g : ScriptFunctions F) (text : R → List ℕ) (a : Pages R) (site : SiteContent) (s : Stage)
    → ((found : Option FileId) → s ≡ stage.Reply found → ⊥) → left_in g text a site s ≡ []
quiet g text a site stage.Method never = refl
quiet g text a site stage.Target never = refl
quiet g text a site stage.Refused never = refl
quiet g text a site (stage.Reply found) never = absurd (never found refl)

pub quiet_zero : {F R : Type 0} (g : ScriptFunctions F) (text : R → List ℕ) (a : Pages R) (site : SiteContent) (n : ℕ)
    → ((found : Option FileId) → a.stage ≡ stage.Reply found → ⊥) → CanSupply (means g) (PagesRepresent g text) a site n → n ≡ 0
quiet_zero g text a site n never can =
    let most : n ≤ length (left_in g text a site a.stage) = can_supply g text a site n a.stage refl can in
    let none : length (left_in g text a site a.stage) ≡ 0 = ap length (quiet g text a site a.stage never) in
    omega (arith, most, none)

-- ---- acknowledging

acked_left : {F : Type 0} (r : FileReply F) (t u : Thread) (name : List ℕ) (p : AppState) (n : ℕ) → IsLeft r t name p
    → IsPast r.functions r.files n (left_from r t) (left_from r u) → n ≤ length (text_by r.functions r.files (left_from r t) [])
    → IsLeft r u name (record p { acked = p.acked + n; polls = 0 })
acked_left r t u name p n is history enough = record {
  text = λ later. history.text later ∙ ap (λ xs. drop n xs) (is.text later)
      ∙ drop-drop n p.acked (text_by r.functions r.files (reply_pieces_by r.functions.function_table.named r.files name) (p.snapshots ++ later));
  whole = λ later. history.whole later ∙ is.whole later;
  calls = ap (λ k. length p.snapshots + k) history.calls ∙ is.calls;
  within =
      let here = ap length (is.text [] ∙ ap (λ ks. drop p.acked
      (text_by r.functions r.files (reply_pieces_by r.functions.function_table.named r.files name) ks)) (append-nil p.snapshots)) in
      omega (
        arith,
        here,
        enough,
        is.within,
        length-drop p.acked
            (text_by r.functions r.files (reply_pieces_by r.functions.function_table.named r.files name) p.snapshots),
      );
}

pub reply_acked : {F R : Type 0} (g : ScriptFunctions F) (text : R → List ℕ) (a : Pages R) (site : SiteContent) (found : Option FileId)
    (p : AppState) (n : ℕ) (u : Thread) → a.stage ≡ stage.Reply found → Fits (reply_by g text site found a.capture) u
    → KeepsOn (reply_by g text site found a.capture) a.thread u
    → IsPast g (files_of site) n (left_from (reply_by g text site found a.capture) a.thread) (left_from (reply_by g text site found a.capture) u)
    → n ≤ length (text_by g (files_of site) (left_from (reply_by g text site found a.capture) a.thread) []) → PagesRepresent g text a site p
    → PagesRepresent g text (record a { thread = u; polls = 0 }) site (record p { acked = p.acked + n; polls = 0 })
reply_acked g text a site found p n u e fits kept history enough s =
    let is = replying g text a site p found e s in
    record {
      polls = refl;
      represented = subst (λ st. IsRepresentedIn g text (record a { thread = u; polls = 0 }) site (record p { acked = p.acked + n; polls = 0 }) st) (sym e) (
        is.0,
        record {
          wanted = is.1.wanted;
          there = is.1.there;
          file = is.1.file;
          fits = fits;
          kept = kept p.snapshots is.1.kept;
          left = acked_left (reply_by g text site found a.capture) a.thread u is.0 p n is.1.left history enough;
        },
      );
    }

-- if nothing is sent, nothing can be acknowledged
nothing_acked : {F R : Type 0} (g : ScriptFunctions F) (text : R → List ℕ) (a : Pages R) (site : SiteContent) (p : AppState) (n : ℕ)
    (s : Stage) → ((found : Option FileId) → s ≡ stage.Reply found → ⊥) → n ≡ 0 → IsRepresentedIn g text a site p s
    → IsRepresentedIn g text (record a { polls = 0 }) site (record p { acked = p.acked + n; polls = 0 }) s
nothing_acked g text a site p n stage.Method never e (received, none) = (received, record { snapshots = none.snapshots; acked = omega (arith, none.acked, e) })
nothing_acked g text a site p n stage.Target never e (received, none) = (received, record { snapshots = none.snapshots; acked = omega (arith, none.acked, e) })
nothing_acked g text a site p n stage.Refused never e (refused, none) = (refused, record { snapshots = none.snapshots; acked = omega (arith, none.acked, e) })
nothing_acked g text a site p n (stage.Reply found) never e represented = absurd (never found refl)

pub quiet_acked : {F R : Type 0} (g : ScriptFunctions F) (text : R → List ℕ) (a : Pages R) (site : SiteContent) (p : AppState) (n : ℕ)
    → ((found : Option FileId) → a.stage ≡ stage.Reply found → ⊥) → CanSupply (means g) (PagesRepresent g text) a site n → PagesRepresent g text a site p
    → PagesRepresent g text (record a { polls = 0 }) site (record p { acked = p.acked + n; polls = 0 })
quiet_acked g text a site p n never can s =
    record { polls = refl; represented = nothing_acked g text a site p n a.stage never (quiet_zero g text a site n never can) s.represented }
