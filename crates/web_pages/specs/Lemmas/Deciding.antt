-- What is decided of a request stays, whatever bytes follow.
use Rattle.std.proofs.Common.{◌++◌, length, drop, refl, sym, ap, ◌∙◌, arith, if◌then◌else◌}
use Rattle.std.specs.Prelude.{◌≡◌, ◌≢◌, ◌+◌, ◌≤◌, ◌||◌, Bool, bytes_eq, codes, false, List, not, true, ℕ}
use Rattle.std.specs.List.{list_any}
use Rattle.std.proofs.lemmas.List.{drop-append-le, drop-drop, drop_at, length-append}
use Rattle.std.proofs.lemmas.List.Folds.{list_any-append}
use Rattle.protosocket.specs.declared.stops.Stops.{Stops}
use Rattle.protosocket.specs.declared.stops.Stops.TheVariants.{Space, SpaceOrLine}
use Rattle.protosocket.specs.Prelude.{is_stop, word_of, one_before, none_before, stop_fits}
use Rattle.web_pages.specs.Requests.{Wanted, wanted, wanted_by, has_ended, method_of, after_method, target_of}
use Rattle.web_pages.specs.Requests.Wanted.{NotYet, Refused, Name}

-- a word that has ended has ended, and stays, whatever follows
pub ended_more : (stops : Stops) (bytes more : List ℕ) → has_ended stops bytes ≡ true → has_ended stops (bytes ++ more) ≡ true
ended_more stops bytes more e = list_any-append (is_stop stops) bytes more ∙ ap (λ b. b || list_any (is_stop stops) more) e

pub word_more : (stops : Stops) (bytes more : List ℕ) → has_ended stops bytes ≡ true → word_of stops (bytes ++ more) ≡ word_of stops bytes
word_more stops bytes more e = one_before (is_stop stops) bytes more e

with_stop : (stop : Bool) (n m : ℕ) → stop ≡ true → n + (if stop then 1 else 0) ≤ m → n + 1 ≤ m
with_stop true n m e h = h
with_stop false n m e h = absurd cc

pub after_more : (request more : List ℕ) → has_ended Space request ≡ true → after_method (request ++ more) ≡ after_method request ++ more
after_more request more e =
    let fits = with_stop (has_ended Space request) (length (method_of request)) (length request) e (stop_fits (is_stop Space) request) in
    ap (λ word. drop (length word + 1) (request ++ more)) (word_more Space request more e)
    ∙ drop-append-le (length (method_of request) + 1) request more fits

-- what is requested, by the answers of the three tests and the target
abbrev pub by_tests : Bool → Bool → Bool → List ℕ → Wanted
by_tests method is_get target word =
    if not method then NotYet else if not is_get then Refused else if not target then NotYet else wanted_by word

stays_by : (a a' b b' c c' : Bool) (t t' : List ℕ) → (a ≡ true → a' ≡ true) → (a ≡ true → b' ≡ b)
    → (a ≡ true → c ≡ true → (c' ≡ true) × (t' ≡ t))
    → by_tests a b c t ≢ NotYet → by_tests a' b' c' t' ≡ by_tests a b c t
stays_by false a' b b' c c' t t' f g h decided = absurd (decided refl)
stays_by true a' false b' c c' t t' f g h decided = λ i. by_tests (f refl i) (g refl i) c' t'
stays_by true a' true b' false c' t t' f g h decided = absurd (decided refl)
stays_by true a' true b' true c' t t' f g h decided = λ i. by_tests (f refl i) (g refl i) ((h refl refl).0 i) ((h refl refl).1 i)

pub stays_wanted : (request more : List ℕ) → wanted request ≢ NotYet → wanted (request ++ more) ≡ wanted request
stays_wanted request more decided =
    stays_by (has_ended Space request) (has_ended Space (request ++ more)) (bytes_eq (method_of request) (codes "GET"))
    (bytes_eq (method_of (request ++ more)) (codes "GET")) (has_ended SpaceOrLine (after_method request))
    (has_ended SpaceOrLine (after_method (request ++ more)))
    (target_of request) (target_of (request ++ more))
    (ended_more Space request more)
    (λ e. ap (λ word. bytes_eq word (codes "GET")) (word_more Space request more e))
    (λ e f. (
      ap (has_ended SpaceOrLine) (after_more request more e) ∙ ended_more SpaceOrLine (after_method request) more f,
      ap (word_of SpaceOrLine) (after_more request more e) ∙ word_more SpaceOrLine (after_method request) more f,
    ))
    decided

-- the same by cases of what was requested before
pub more_by : (before : Wanted) (request more : List ℕ) → wanted request ≡ before → before ≢ NotYet → wanted (request ++ more) ≡ before
more_by before request more e decided = stays_wanted request more (λ none. decided (sym e ∙ none)) ∙ e

pub refused_stays : (request more : List ℕ) → wanted request ≡ Refused → wanted (request ++ more) ≡ Refused
refused_stays request more e = more_by Refused request more e (λ f. cc)

pub name_stays : (request more name : List ℕ) → wanted request ≡ Name name → wanted (request ++ more) ≡ Name name
name_stays request more name e = more_by (Name name) request more e (λ f. cc)

-- ---- what is requested, by the words

pub method_open : (request : List ℕ) → has_ended Space request ≡ false → wanted request ≡ NotYet
method_open request e =
    ap (λ a. by_tests a (bytes_eq (method_of request) (codes "GET")) (has_ended SpaceOrLine (after_method request)) (target_of request)) e

pub other_method : (request : List ℕ) → has_ended Space request ≡ true → bytes_eq (method_of request) (codes "GET") ≡ false
    → wanted request ≡ Refused
other_method request e f = λ i. by_tests (e i) (f i) (has_ended SpaceOrLine (after_method request)) (target_of request)

pub target_open : (request : List ℕ) → has_ended Space request ≡ true → bytes_eq (method_of request) (codes "GET") ≡ true
    → has_ended SpaceOrLine (after_method request) ≡ false → wanted request ≡ NotYet
target_open request e f g = λ i. by_tests (e i) (f i) (g i) (target_of request)

pub decided_by_target : (request : List ℕ) → has_ended Space request ≡ true → bytes_eq (method_of request) (codes "GET") ≡ true
    → has_ended SpaceOrLine (after_method request) ≡ true → wanted request ≡ wanted_by (target_of request)
decided_by_target request e f g = λ i. by_tests (e i) (f i) (g i) (target_of request)

-- ---- a method that ends in later bytes

pub method_goes_on : (request more : List ℕ) → has_ended Space request ≡ false → method_of (request ++ more) ≡ request ++ method_of more
method_goes_on request more e = none_before (is_stop Space) request more e

pub target_begins : (request more : List ℕ) → has_ended Space request ≡ false → after_method (request ++ more) ≡ after_method more
target_begins request more e =
    let word = method_of more in
    let counted : length (method_of (request ++ more)) ≡ length request + length word =
    ap length (method_goes_on request more e) ∙ length-append request word in
    ap (λ n. drop n (request ++ more)) (omega (arith, counted))
    ∙ sym (drop-drop (length word + 1) (length request) (request ++ more))
    ∙ ap (drop (length word + 1)) (drop_at request more (length request) refl)
