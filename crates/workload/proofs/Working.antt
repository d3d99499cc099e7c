-- Lines one after another, and the events of words.
use Rattle.workload.proofs.Prelude.{◌≡◌, ℕ, suc, zero, ◌+◌, ◌/◌, ◌%◌, ◌<◌, List, [], ◌∷◌, ◌++◌, length, take, get_or, refl, sym, ap, arith}
use Rattle.workload.proofs.Prelude.{◌∙◌, append_assoc, flat_map, take_more, flat_map-cons, first_words, Lcg, pcg32, Event, Tick, Line}
use Rattle.workload.proofs.Prelude.{event_drawn, happens, numbered_from}

abbrev pub line_with : ℕ → Event → Line
line_with number event = record { at = number; event = event }

pub numbered_push : (a n : ℕ) (es : List Event) (e : Event) → a + length es ≡ n → numbered_from a (es ++ e ∷ []) ≡ numbered_from a es ++ line_with n e ∷ []
numbered_push a n [] e at = let same : a ≡ n = omega (arith, at) in ap (λ (x : ℕ). line_with x e ∷ []) same
numbered_push a n (first ∷ es) e at = ap (λ (l : List Line). line_with a first ∷ l) (numbered_push (a + 1) n es e (omega (arith, at)))

-- as many as there are
pub length-numbered : (a : ℕ) (es : List Event) → length (numbered_from a es) ≡ length es
length-numbered a [] = refl
length-numbered a (e ∷ es) = ap suc (length-numbered (a + 1) es)

pub length-prefix : (xs : List Event) (i : ℕ) → i < length xs → length (take i xs) ≡ i
length-prefix [] i lt = absurd (omega (arith, lt))
length-prefix (x ∷ xs) zero lt = refl
length-prefix (x ∷ xs) (suc i) lt = ap suc (length-prefix xs i (omega (arith, lt)))

pub numbered_more : (a i : ℕ) (xs : List Event) (x : Event) → i < length xs → get_or xs i x ≡ x → numbered_from a (take (i + 1) xs)
    ≡ numbered_from a (take i xs) ++ line_with (a + i) x ∷ []
numbered_more a i xs x lt at =
    let more : take (i + 1) xs ≡ take i xs ++ x ∷ [] = take_more xs i x lt ∙ ap (λ (y : Event). take i xs ++ y ∷ []) at in
    ap (numbered_from a) more ∙ numbered_push a (a + i) (take i xs) x (ap (λ n. a + n) (length-prefix xs i lt))

drawn_more : (f : ℕ → List Event) (k : ℕ) (s : Lcg) → flat_map f (first_words pcg32 (suc k) s) ≡ f (pcg32 s).0 ++ flat_map f (first_words pcg32 k (pcg32 s).1)
unfolding first_words
drawn_more f k s = flat_map-cons f (pcg32 s).0 (first_words pcg32 k (pcg32 s).1)

pub drawn_step : (clients left k : ℕ) (s t : Lcg) (word : ℕ) (old one two new : List Event) (e : Event) → left ≡ suc k → (word, t) ≡ pcg32 s
    → e ≡ event_drawn (word % 8) (1 + word / 8 % clients) → one ≡ old ++ e ∷ [] → two ≡ one ++ Tick 1 ∷ []
    → new ≡ two ++ flat_map (happens clients) (first_words pcg32 k t) → new ≡ old ++ flat_map (happens clients) (first_words pcg32 left s)
drawn_step clients left k s t word old one two new e more drawn event first second rest =
    let f = happens clients in
    let later = flat_map f (first_words pcg32 k t) in
    let w : word ≡ (pcg32 s).0 = ap (λ p. p.0) drawn in
    let u : t ≡ (pcg32 s).1 = ap (λ p. p.1) drawn in
    let parts : two ≡ (old ++ e ∷ []) ++ Tick 1 ∷ [] = second ∙ ap (λ (l : List Event). l ++ Tick 1 ∷ []) first in
    rest ∙ ap (λ (l : List Event). l ++ later) parts
    ∙ append_assoc (old ++ e ∷ []) (Tick 1 ∷ []) later
    ∙ append_assoc old (e ∷ []) (Tick 1 ∷ later)
    ∙ ap (λ (l : List Event). old ++ l)
    (ap (λ (x : Event). x ∷ Tick 1 ∷ later) event
    ∙ ap (λ (x : ℕ). f x ++ later) w
    ∙ ap (λ (x : Lcg). f (pcg32 s).0 ++ flat_map f (first_words pcg32 k x)) u
    ∙ sym (drawn_more f k s)
    ∙ ap (λ (n : ℕ). flat_map f (first_words pcg32 n s)) (sym more))

pub none_drawn : (f : ℕ → List Event) (s : Lcg) → flat_map f (first_words pcg32 0 s) ≡ []
unfolding first_words
none_drawn f s = refl
