-- The offsets of bytes in a text.
use Rattle.node_laws.proofs.Prelude.{◌≡◌, ℕ, zero, suc, ◌+◌, ◌<◌, ◌≤◌, ◌⊎◌, List, [], ◌∷◌, ◌++◌, length, take, drop, refl, sym, ap, ◌∙◌}
use Rattle.node_laws.proofs.Prelude.{arith, Some, None, slice_get, length-append, IsPrefixOf, append_nothing}
use Rattle.node_laws.proofs.StepTable.{nil_of}

get_drop : (a : ℕ) (xs : List ℕ) (i b : ℕ) → slice_get (drop a xs) i ≡ Some b → slice_get xs (a + i) ≡ Some b
get_drop zero xs i b h = (let e : zero + i ≡ i = omega arith in ap (slice_get xs) e ∙ h)
get_drop (suc a) [] i b h = absurd (cc)
get_drop (suc a) (x ∷ xs) i b h = (let e : suc a + i ≡ suc (a + i) = omega arith in ap (slice_get (x ∷ xs)) e ∙ get_drop a xs i b h)

get_take : (n : ℕ) (xs : List ℕ) (i b : ℕ) → slice_get (take n xs) i ≡ Some b → slice_get xs i ≡ Some b
get_take zero xs i b h = absurd (cc)
get_take (suc n) [] i b h = absurd (cc)
get_take (suc n) (x ∷ xs) zero b h = h
get_take (suc n) (x ∷ xs) (suc i) b h = get_take n xs i b h

pub get_slice : (page text : List ℕ) (at i b : ℕ) → text ≡ take (length text) (drop at page) → slice_get text i ≡ Some b → slice_get page (at + i) ≡ Some b
get_slice page text at i b e h = get_drop at page i b (get_take (length text) (drop at page) i b (ap (λ z. slice_get z i) (sym e) ∙ h))

pub get_inside : (xs : List ℕ) (x k : ℕ) → slice_get xs k ≡ Some x → k < length xs
get_inside [] x k h = absurd (cc)
get_inside (a ∷ xs) x zero h = omega arith
get_inside (a ∷ xs) x (suc k) h = let i = get_inside xs x k h in omega (arith, i)

pub element : (xs : List ℕ) (i : ℕ) → i < length xs → (b : ℕ) × (slice_get xs i ≡ Some b)
element [] i h = absurd (omega (arith, h))
element (x ∷ xs) zero h = (x, refl)
element (x ∷ xs) (suc i) h = element xs i (omega (arith, h))

-- byte by byte
pub prefix_by : (xs ys : List ℕ) → ((i b : ℕ) → slice_get xs i ≡ Some b → slice_get ys i ≡ Some b) → IsPrefixOf xs ys
prefix_by [] ys h = record { rest = ys; joined = refl }
prefix_by (x ∷ xs) [] h = absurd (let z : None ≡ Some x = h 0 x refl in cc)
prefix_by (x ∷ xs) (y ∷ ys) h =
    let z : Some y ≡ Some x = h 0 x refl in
    let e : x ≡ y = cc in
    let r = prefix_by xs ys (λ i b g. h (suc i) b g) in
    record { rest = r.rest; joined = ap (λ n. n ∷ (xs ++ r.rest)) e ∙ ap (λ l. y ∷ l) r.joined }

pub all_of_it : (xs ys : List ℕ) → IsPrefixOf xs ys → length xs ≡ length ys → xs ≡ ys
all_of_it xs ys h e =
    let z : length h.rest ≡ 0 = (let a : length (xs ++ h.rest) ≡ length ys = ap length h.joined in let b : length (xs ++ h.rest)
    ≡ length xs + length h.rest = length-append xs h.rest in omega (arith, a, b, e)) in
    sym (append_nothing xs) ∙ ap (λ r. xs ++ r) (sym (nil_of h.rest z)) ∙ h.joined

pub most_or_more : (n most : ℕ) → (n ≤ most) ⊎ (most < n)
most_or_more n most = grind arith

-- the bytes of two texts joined
pub data InBoth (xs ys : List ℕ) (i b : ℕ) : Type 0 where
  in_first : slice_get xs i ≡ Some b → InBoth xs ys i b
  in_second : (j : ℕ) → i ≡ length xs + j → slice_get ys j ≡ Some b → InBoth xs ys i b

pub get_append : (xs ys : List ℕ) (i b : ℕ) → slice_get (xs ++ ys) i ≡ Some b → InBoth xs ys i b
get_append [] ys i b h = in_second i (omega arith) h
get_append (x ∷ xs) ys zero b h = in_first h
get_append (x ∷ xs) ys (suc i) b h = elim (get_append xs ys i b h) [ in_first g ↦ in_first g | in_second j e g ↦ in_second j (omega (arith, e)) g ]
