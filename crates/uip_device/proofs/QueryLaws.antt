-- What is kept of a request, by what the pages represent.
use Rattle.uip_device.proofs.Prelude.{◌≡◌, ℕ, Bool, false, true, List, [], ◌∷◌, Option, None, Some, refl, sym, ap, subst, ◌∙◌, option_map}
use Rattle.uip_device.proofs.Prelude.{length, take, cond, ◌||◌, ◌+◌, ◌-◌, drop, position, length-drop, length-take, arith, before_first}
use Rattle.uip_device.proofs.Prelude.{list_any, nat_eq, slice_get, eqb-true, drop_all, take_all, AppState, AreApart, SiteContent, files_of}
use Rattle.uip_device.proofs.Prelude.{FileId, no_place, place_is, CompactRepresent, cut_at, found, missing, whole, Space, Line}
use Rattle.uip_device.proofs.Prelude.{is_query_mark, is_stop, none_at_all, word_of, File, file_named, has_name, place_of, target_of, wanted}
use Rattle.uip_device.proofs.Prelude.{QueryContent, kept_query, kept_text, place_wanted, query_after, query_by, query_in, text_after_mark}
use Rattle.std.specs.Str.{bytes_eq}
use Rattle.std.proofs.lemmas.Option.{slice_get-get_or}
use Rattle.std.proofs.lemmas.List.Quantifiers.{position-Some}
use Rattle.std.proofs.lemmas.Slice.Eq.{bytes_eq-Decides}
use Rattle.generators.specs.Prelude.{ScriptFunctions}
use Rattle.httpd.proofs.Compacting.{word_open}
use Rattle.httpd.specs.Reception.{ReceivesMethod}
use Rattle.httpd.specs.Places.{IsFound}
use Rattle.httpd.specs.Reply.{found_file}
use Rattle.httpd.specs.declared.compact.CompactPages.TheVariants as compact
use Rattle.httpd.specs.declared.thread.Thread.{Thread}

-- ---- where a text is cut

pub cut_length : (p : ℕ → Bool) (xs : List ℕ) (k : ℕ) → position p xs ≡ Some k → length (before_first p xs) ≡ k
cut_length p xs k e =
    let at = position-Some p xs k 0 e in
    sym (ap length (cut_at p xs k e)) ∙ omega (arith, length-take k xs, at.0)

pub whole_length : (p : ℕ → Bool) (xs : List ℕ) → position p xs ≡ None → length (before_first p xs) ≡ length xs
whole_length p xs e = ap length (sym (whole p xs e))

-- what is after the first stop
pub rest_after : (p : ℕ → Bool) (xs : List ℕ) (k : ℕ) → position p xs ≡ Some k
    → take (length xs - (k + 1)) (drop (k + 1) xs) ≡ drop (length (before_first p xs) + 1) xs
rest_after p xs k e =
    take_all (length xs - (k + 1)) (drop (k + 1) xs) (omega (arith, length-drop (k + 1) xs))
    ∙ ap (λ n. drop (n + 1) xs) (sym (cut_length p xs k e))

pub rest_none : (p : ℕ → Bool) (xs : List ℕ) → position p xs ≡ None → [] ≡ drop (length (before_first p xs) + 1) xs
rest_none p xs e = sym (drop_all (length (before_first p xs) + 1) xs (omega (arith, whole_length p xs e)))

pub mark_after : (xs : List ℕ) (k : ℕ) → position is_query_mark xs ≡ Some k
    → Some (take (length xs - (k + 1)) (drop (k + 1) xs)) ≡ text_after_mark xs
mark_after xs k e =
    ap Some (rest_after is_query_mark xs k e)
    ∙ ap (λ b. cond b (Some (drop (length (before_first is_query_mark xs) + 1) xs)) None) (found is_query_mark xs k e)

pub mark_none : (xs : List ℕ) → position is_query_mark xs ≡ None → None ≡ text_after_mark xs
mark_none xs e = ap (λ b. cond b (Some (drop (length (before_first is_query_mark xs) + 1) xs)) None) (missing is_query_mark xs e)

-- ---- nothing was delivered

pub no_length : (xs : List ℕ) → nat_eq (length xs) 0 ≡ true → xs ≡ []
no_length [] e = refl
no_length (x ∷ xs) e = absurd (let none : length (x ∷ xs) ≡ 0 = eqb-true (length (x ∷ xs)) 0 e in omega (arith, none))

take_nil : (d : List ℕ) → take 64 d ≡ [] → d ≡ []
take_nil [] e = refl
take_nil (x ∷ d) e = absurd cc

-- a first word without a name and a mark has no bytes
word_nil : (line : Line) (d : List ℕ) → ReceivesMethod line d → line.query ≡ false → line.name ≡ [] → d ≡ []
word_nil line d delivers_text unmarked nameless =
    let word : word_of Space d ≡ d = none_at_all (is_stop Space) d delivers_text.goes_on in
    let none : list_any is_query_mark d ≡ false =
    sym (ap (list_any is_query_mark) word) ∙ sym (ap (λ (l : Line). l.query) delivers_text.holds) ∙ unmarked in
    let name : before_first is_query_mark (word_of Space d) ≡ d = ap (before_first is_query_mark) word ∙ none_at_all is_query_mark d none in
    take_nil d (sym (ap (take 64) name) ∙ sym (ap (λ (l : Line). l.name) delivers_text.holds) ∙ nameless)

module _ {F R : Type 0} (g : ScriptFunctions F) (text : R → List ℕ) (site : SiteContent) (p : AppState) (polls : ℕ) where
  pub first_open : (target : Bool) (line : Line) → CompactRepresent g text (compact.Receiving polls target line) site p
      → target ≡ false → line.query ≡ false → line.name ≡ [] → p.input ≡ []
  first_open true line s t unmarked nameless = absurd cc
  first_open false line s t unmarked nameless = word_nil line p.input s.represented.0 unmarked nameless

  pub open_target : (target : Bool) (line : Line) → CompactRepresent g text (compact.Receiving polls target line) site p
      → p.input ≡ [] → target ≡ false
  open_target true line s none = absurd (let ended = rw none at s.represented.0.method_ended in cc)
  open_target false line s none = refl

  pub open_query : (target : Bool) (line : Line) → CompactRepresent g text (compact.Receiving polls target line) site p
      → p.input ≡ [] → line.query ≡ false
  open_query true line s none = absurd (let ended = rw none at s.represented.0.method_ended in cc)
  open_query false line s none =
      ap (λ (l : Line). l.query) s.represented.0.holds ∙ ap (λ d. list_any is_query_mark (word_of Space d)) none

  pub open_name : (target : Bool) (line : Line) → CompactRepresent g text (compact.Receiving polls target line) site p
      → p.input ≡ [] → line.name ≡ []
  open_name true line s none = absurd (let ended = rw none at s.represented.0.method_ended in cc)
  open_name false line s none =
      ap (λ (l : Line). l.name) s.represented.0.holds ∙ ap (λ d. take 64 (before_first is_query_mark (word_of Space d))) none

  pub sent_later : (found : Option FileId) (thread : Thread) (capture : R)
      → CompactRepresent g text (compact.Replying polls found thread capture) site p → p.input ≡ [] → ⊥
  sent_later found thread capture s none = let named = rw none at s.represented.1.wanted in cc

  pub refused_later : CompactRepresent g text (compact.Refused polls) site p → p.input ≡ [] → ⊥
  refused_later s none = let refused = rw none at s.represented.0 in cc

-- ---- the file that was requested

first_name : (b : Bool) (first file : File) (rest : Option File) (name : List ℕ) → bytes_eq first.name name ≡ b → (rest ≡ Some file → file.name ≡ name)
    → cond b (Some first) rest ≡ Some file → file.name ≡ name
first_name true first file rest name is later e =
    let same : first ≡ file = cc in
    sym (ap (λ (f : File). f.name) same) ∙ (bytes_eq-Decides first.name name).0 is
first_name false first file rest name is later e = later e

find_name : (files : List File) (name : List ℕ) (file : File) → file_named files name ≡ Some file → file.name ≡ name
find_name [] name file e = absurd cc
find_name (first ∷ files) name file e =
    first_name (bytes_eq first.name name) first file (file_named files name) name refl (find_name files name file) e

first_none : (b more : Bool) (first : File) (rest : Option File) → (rest ≡ None → more ≡ false) → cond b (Some first) rest ≡ None → (b || more) ≡ false
first_none true more first rest later e = absurd cc
first_none false more first rest later e = later e

find_none : (files : List File) (name : List ℕ) → file_named files name ≡ None → has_name files name ≡ false
find_none [] name e = refl
find_none (first ∷ files) name e =
    first_none (bytes_eq first.name name) (has_name files name) first (file_named files name) (find_none files name) e

-- the file found for a name is at the place of the name
pub found_at : (files : List File) → AreApart files → (name : List ℕ) (found : Option FileId) → IsFound files found
    → found_file files found ≡ file_named files name → place_of files name ≡ option_map (λ (id : FileId). id.0) found
found_at files apart name None within is = no_place files name (find_none files name (sym is))
found_at files apart name (Some id) within is = by (slice_get files id.0) refl
  where
    by : (o : Option File) → slice_get files id.0 ≡ o → place_of files name ≡ Some id.0
    by None e = absurd (let there = slice_get-get_or files id.0 (record { name = []; kind = []; content = [] }) within in cc)
    by (Some file) e = subst (λ n. place_of files n ≡ Some id.0) (find_name files name file (sym is ∙ e)) (place_is files apart id.0 file e)

-- ---- what is kept

no_place_kept : (hits : List ℕ) (old : QueryContent) (place : Option ℕ) (text : Option (List ℕ)) → place ≡ None → kept_query hits old place text ≡ old
no_place_kept hits old None text e = refl
no_place_kept hits old (Some place) text e = absurd cc

module _ {F R : Type 0} (g : ScriptFunctions F) (text : R → List ℕ) (site : SiteContent) (p : AppState) (polls : ℕ) (hits : List ℕ) (old : QueryContent) where
  pub open_keeps : (target : Bool) (line : Line) → CompactRepresent g text (compact.Receiving polls target line) site p
      → kept_query hits old (place_wanted (files_of site) (wanted p.input)) (query_in p.input) ≡ old
  open_keeps true line s =
      no_place_kept hits old (place_wanted (files_of site) (wanted p.input)) (query_in p.input)
      (ap (place_wanted (files_of site)) (word_open true line p.input s.represented.0))
  open_keeps false line s =
      no_place_kept hits old (place_wanted (files_of site) (wanted p.input)) (query_in p.input)
      (ap (place_wanted (files_of site)) (word_open false line p.input s.represented.0))

  pub refused_keeps : CompactRepresent g text (compact.Refused polls) site p
      → kept_query hits old (place_wanted (files_of site) (wanted p.input)) (query_in p.input) ≡ old
  refused_keeps s =
      no_place_kept hits old (place_wanted (files_of site) (wanted p.input)) (query_in p.input)
      (ap (place_wanted (files_of site)) s.represented.0)

  pub reply_keeps : (found : Option FileId) (thread : Thread) (capture : R) → AreApart (files_of site)
      → CompactRepresent g text (compact.Replying polls found thread capture) site p
      → kept_query hits old (place_wanted (files_of site) (wanted p.input)) (query_in p.input)
      ≡ kept_query hits old (option_map (λ (id : FileId). id.0) found) (kept_text (text_after_mark (target_of p.input)))
  reply_keeps found thread capture apart s =
      let name = s.represented.0 in
      let is = s.represented.1 in
      let at = found_at (files_of site) apart name found is.there is.file in
      ap (λ w. kept_query hits old (place_wanted (files_of site) w) (query_by w (target_of p.input))) is.wanted
      ∙ ap (λ place. kept_query hits old place (kept_text (text_after_mark (target_of p.input)))) at

-- ---- what is kept after a piece

pub after_first : (files : List File) (hits : List ℕ) (old : QueryContent) (delivered piece : List ℕ) → delivered ≡ []
    → query_after files hits old delivered piece ≡ kept_query hits old (place_wanted files (wanted piece)) (query_in piece)
after_first files hits old [] piece e = refl
after_first files hits old (first ∷ more) piece e = absurd cc

pub after_later : (files : List File) (hits : List ℕ) (old : QueryContent) (delivered piece : List ℕ) → (delivered ≡ [] → ⊥)
    → query_after files hits old delivered piece ≡ old
after_later files hits old [] piece later = absurd (later refl)
after_later files hits old (first ∷ more) piece later = refl
