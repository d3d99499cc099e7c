-- What holds for each schedule, line by line.
use Rattle.link_schedule.proofs.Prelude.{◌≡◌, ℕ, Bool, true, false, cond, List, [], ◌∷◌, Option, None, Some, Result, Ok, Err, IfOk, refl}
use Rattle.link_schedule.proofs.Prelude.{codes, bytes_eq, Event, Opens, Again, Closes, Aborts, Window, Ping, Give, Damage, Tick, Why, Form}
use Rattle.link_schedule.proofs.Prelude.{NoClient, is_numeral, numeral, ◌>>=◌, address, in_range, named, within, bare, bare_forms, by_verb}
use Rattle.link_schedule.proofs.Prelude.{event_of_words, forms_with_one, with_one, window, damage, event_in_range, is_between}

-- either answer of a choice
pub either : {A : Type 0} (P : A → Type 0) (b : Bool) (x y : Result A Why) → IfOk x P → IfOk y P → IfOk (cond b x y) P
either P true x y p q = p
either P false x y p q = q

-- the same, with what was tested
pub tested : {A : Type 0} (P : A → Type 0) (b : Bool) (x y : Result A Why) → (b ≡ true → IfOk x P) → IfOk y P → IfOk (cond b x y) P
tested P true x y p q = p refl
tested P false x y p q = q

-- one part of a line after another
pub behind : {A B : Type 0} (Q : A → Type 0) (P : B → Type 0) (r : Result A Why) (f : A → Result B Why)
    → IfOk r Q → ((x : A) → Q x → IfOk (f x) P) → IfOk (r >>= f) P
behind Q P (Ok x) f q p = p x q
behind Q P (Err why) f q p = tt

pub anything : {A : Type 0} (r : Result A Why) → IfOk r (λ x. Unit {0})
anything (Ok x) = tt
anything (Err why) = tt

in_range_between : (low high : ℕ) (why : Why) (n : Option ℕ) → IfOk (in_range low high why n) (λ c. is_between low high c ≡ true)
in_range_between low high why None = tt
in_range_between low high why (Some n) =
    tested (λ c. is_between low high c ≡ true) (is_between low high n) (Ok n) (Err why) (λ e. e) tt

pub named_in_range : (clients : ℕ) (word : List ℕ) → IfOk (named clients word) (λ c. is_between 1 clients c ≡ true)
named_in_range clients word =
    either (λ c. is_between 1 clients c ≡ true) (is_numeral word) (in_range 1 clients NoClient (numeral word)) (Err Form)
    (in_range_between 1 clients NoClient (numeral word)) tt

pub within_range : (low high : ℕ) (word : List ℕ) → IfOk (within low high word) (λ n. is_between low high n ≡ true)
within_range low high word = in_range_between low high Form (numeral word)

abbrev Fine : ℕ → Event → Type 0
Fine clients event = event_in_range clients event ≡ true

-- each form of a list
abbrev AllFine : (Event → Type 0) → List (List ℕ × Result Event Why) → Type 0
AllFine P [] = Unit {0}
AllFine P (form ∷ forms) = IfOk form.1 P × AllFine P forms

by_verb_fine : (P : Event → Type 0) (verb : List ℕ) (forms : List (List ℕ × Result Event Why)) → AllFine P forms → IfOk (by_verb verb forms) P
by_verb_fine P verb [] all = tt
by_verb_fine P verb (form ∷ forms) all =
    either P (bytes_eq verb form.0) form.1 (by_verb verb forms) all.0 (by_verb_fine P verb forms all.1)

bare_fine : (clients : ℕ) (verb : List ℕ) → IfOk (bare verb) (Fine clients)
unfolding bare
bare_fine clients verb = by_verb_fine (Fine clients) verb bare_forms (refl, (refl, (refl, (refl, (refl, (refl, tt))))))

of_client : (clients : ℕ) (word : List ℕ) (event : ℕ → Event) → ((c : ℕ) → is_between 1 clients c ≡ true → Fine clients (event c))
    → IfOk (named clients word >>= λ c. Ok (event c)) (Fine clients)
of_client clients word event p =
    behind (λ c. is_between 1 clients c ≡ true) (Fine clients) (named clients word) (λ c. Ok (event c)) (named_in_range clients word) p

with_one_fine : (clients : ℕ) (verb word : List ℕ) → IfOk (with_one clients verb word) (Fine clients)
unfolding with_one
with_one_fine clients verb word =
    by_verb_fine (Fine clients) verb (forms_with_one clients word) (
      of_client clients word Opens (λ c e. e),
      (
        of_client clients word Again (λ c e. e),
        (
          of_client clients word Closes (λ c e. e),
          (
            of_client clients word Aborts (λ c e. e),
            (
              behind (λ a. Unit {0}) (Fine clients) (address word) (λ a. Ok (Ping a)) (anything (address word)) (λ a u. refl),
              (
                behind (λ k. Unit {0}) (Fine clients) (within 0 4294967295 word) (λ k. Ok (Give k)) (anything (within 0 4294967295 word)) (λ k u. refl),
                (
                  behind (λ n. is_between 1 300 n ≡ true) (Fine clients) (within 1 300 word) (λ n. Ok (Tick n)) (within_range 1 300 word) (λ n e. e),
                  tt,
                ),
              ),
            ),
          ),
        ),
      ),
    )

with_two_fine : (clients : ℕ) (verb one two : List ℕ) → IfOk (event_of_words clients (verb ∷ one ∷ two ∷ [])) (Fine clients)
with_two_fine clients verb one two =
    either (Fine clients) (bytes_eq verb (codes "window")) (window clients one two) (Err Form)
    (behind (λ w. Unit {0}) (Fine clients) (within 0 65535 two) (λ w. named clients one >>= λ c. Ok (Window c w)) (anything (within 0 65535 two))
    (λ w u. of_client clients one (λ c. Window c w) (λ c e. e)))
    tt

with_three_fine : (clients : ℕ) (verb one two three : List ℕ) → IfOk (event_of_words clients (verb ∷ one ∷ two ∷ three ∷ [])) (Fine clients)
with_three_fine clients verb one two three =
    either (Fine clients) (bytes_eq verb (codes "damage")) (damage one two three) (Err Form)
    (behind (λ k. Unit {0}) (Fine clients) (within 0 4294967295 one)
    (λ k. within 0 65535 two >>= λ i. within 1 255 three >>= λ x. Ok (Damage k i x)) (anything (within 0 4294967295 one))
    (λ k u. behind (λ i. Unit {0}) (Fine clients) (within 0 65535 two) (λ i. within 1 255 three >>= λ x. Ok (Damage k i x))
    (anything (within 0 65535 two))
    (λ i v. behind (λ x. is_between 1 255 x ≡ true) (Fine clients) (within 1 255 three) (λ x. Ok (Damage k i x)) (within_range 1 255 three) (λ x e. e))))
    tt

pub event_fine : (clients : ℕ) (words : List (List ℕ)) → IfOk (event_of_words clients words) (λ event. event_in_range clients event ≡ true)
event_fine clients [] = tt
event_fine clients (verb ∷ []) = bare_fine clients verb
event_fine clients (verb ∷ one ∷ []) = with_one_fine clients verb one
event_fine clients (verb ∷ one ∷ two ∷ []) = with_two_fine clients verb one two
event_fine clients (verb ∷ one ∷ two ∷ three ∷ []) = with_three_fine clients verb one two three
event_fine clients (verb ∷ one ∷ two ∷ three ∷ four ∷ words) = tt
