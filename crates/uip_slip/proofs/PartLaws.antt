-- The parts of a list of bytes, as the list grows.
use Rattle.uip_slip.proofs.Prelude.{◌≡◌, ℕ, true, false, cond, eqb, List, [], ◌∷◌, ◌++◌, refl, sym, ap, ◌∙◌, append-nil, flat_map}
use Rattle.uip_slip.proofs.Prelude.{onto_first, flat_map-append, Frame, unescaped, frame_of, parts, all_but_last, last_of, frames}
use Rattle.uip_slip.proofs.Prelude.{open_part}

abbrev pub part_frame : List ℕ → List Frame
part_frame part = frame_of (unescaped part)

-- bytes before the first part
abbrev pub with_first : List ℕ → List (List ℕ) → List (List ℕ)
with_first prefix [] = []
with_first prefix (p ∷ ps) = (prefix ++ p) ∷ ps

-- there is always a part
abbrev pub IsSomeParts : List (List ℕ) → Type 0
IsSomeParts [] = ⊥
IsSomeParts (p ∷ ps) = Unit {0}

onto-some : (b : ℕ) (ps : List (List ℕ)) → IsSomeParts ps → IsSomeParts (onto_first b ps)
onto-some b [] h = absurd h
onto-some b (p ∷ ps) h = tt

pub parts-some : (bytes : List ℕ) → IsSomeParts (parts bytes)
parts-some [] = tt
parts-some (a ∷ bytes) =
    elim (eqb a 192) as (λ v. IsSomeParts (cond v ([] ∷ parts bytes) (onto_first a (parts bytes))))
    [ true ↦ tt | false ↦ onto-some a (parts bytes) (parts-some bytes) ]

with-some : (prefix : List ℕ) (ps : List (List ℕ)) → IsSomeParts ps → IsSomeParts (with_first prefix ps)
with-some prefix [] h = absurd h
with-some prefix (p ∷ ps) h = tt

with-none : (ps : List (List ℕ)) → ps ≡ with_first [] ps
with-none [] = refl
with-none (p ∷ ps) = refl

-- the last part of some parts is followed by the parts of more bytes
abbrev pub followed : List (List ℕ) → List (List ℕ) → List (List ℕ)
followed ps more = all_but_last ps ++ with_first (last_of ps) more

end_first : (ps more : List (List ℕ)) → IsSomeParts ps → [] ∷ followed ps more ≡ followed ([] ∷ ps) more
end_first [] more h = absurd h
end_first (p ∷ ps) more h = refl

byte_first : (a : ℕ) (ps more : List (List ℕ)) → IsSomeParts ps → IsSomeParts more → onto_first a (followed ps more) ≡ followed (onto_first a ps) more
byte_first a [] more h k = absurd h
byte_first a (p ∷ []) [] h k = absurd k
byte_first a (p ∷ []) (m ∷ more) h k = refl
byte_first a (p ∷ q ∷ ps) more h k = refl

pub parts-append : (xs ys : List ℕ) → parts (xs ++ ys) ≡ followed (parts xs) (parts ys)
parts-append [] ys = with-none (parts ys)
parts-append (a ∷ xs) ys =
    elim (eqb a 192) as (λ v. cond v ([] ∷ parts (xs ++ ys)) (onto_first a (parts (xs ++ ys)))
    ≡ followed (cond v ([] ∷ parts xs) (onto_first a (parts xs))) (parts ys)) [
      | true ↦ ap (λ l. [] ∷ l) (parts-append xs ys) ∙ end_first (parts xs) (parts ys) (parts-some xs)
      | false ↦ ap (λ l. onto_first a l) (parts-append xs ys) ∙ byte_first a (parts xs) (parts ys) (parts-some xs) (parts-some ys)
    ]

closed-append : (prefix rest : List (List ℕ)) → IsSomeParts rest → all_but_last (prefix ++ rest) ≡ prefix ++ all_but_last rest
closed-append [] rest h = refl
closed-append (p ∷ []) [] h = absurd h
closed-append (p ∷ []) (r ∷ rest) h = refl
closed-append (p ∷ q ∷ prefix) rest h = ap (λ l. p ∷ l) (closed-append (q ∷ prefix) rest h)

last-append : (prefix rest : List (List ℕ)) → IsSomeParts rest → last_of (prefix ++ rest) ≡ last_of rest
last-append [] rest h = refl
last-append (p ∷ []) [] h = absurd h
last-append (p ∷ []) (r ∷ rest) h = refl
last-append (p ∷ q ∷ prefix) rest h = last-append (q ∷ prefix) rest h

-- the open part has no END
onto_open : (a : ℕ) → eqb a 192 ≡ false → (ps : List (List ℕ)) → IsSomeParts ps → parts (last_of ps) ≡ last_of ps ∷ []
    → parts (last_of (onto_first a ps)) ≡ last_of (onto_first a ps) ∷ []
onto_open a plain [] h e = absurd h
onto_open a plain (p ∷ []) h e = rw (plain, e) refl
onto_open a plain (p ∷ q ∷ ps) h e = e

end_open : (ps : List (List ℕ)) → IsSomeParts ps → last_of ([] ∷ ps) ≡ last_of ps
end_open [] h = absurd h
end_open (p ∷ ps) h = refl

pub parts-open : (bytes : List ℕ) → parts (open_part bytes) ≡ open_part bytes ∷ []
parts-open [] = refl
parts-open (a ∷ bytes) =
    elim (eqb a 192) as (λ v. eqb a 192 ≡ v → parts (last_of (cond v ([] ∷ parts bytes) (onto_first a (parts bytes))))
    ≡ last_of (cond v ([] ∷ parts bytes) (onto_first a (parts bytes))) ∷ []) [
      | true ↦ λ e. let same = end_open (parts bytes) (parts-some bytes) in rw same (parts-open bytes)
      | false ↦ λ e. onto_open a e (parts bytes) (parts-some bytes) (parts-open bytes)
    ] refl

open_then : (bytes more : List ℕ) → parts (open_part bytes ++ more) ≡ with_first (open_part bytes) (parts more)
open_then bytes more = parts-append (open_part bytes) more ∙ ap (λ ps. followed ps (parts more)) (parts-open bytes)

-- more bytes add the frames of the open part with them
pub frames-append : (before bytes : List ℕ) → frames (before ++ bytes) ≡ frames before ++ frames (open_part before ++ bytes)
frames-append before bytes =
    let rest = with_first (open_part before) (parts bytes) in
    ap (λ ps. flat_map part_frame (all_but_last ps)) (parts-append before bytes)
    ∙ ap (λ ps. flat_map part_frame ps) (closed-append (all_but_last (parts before)) rest (with-some (open_part before) (parts bytes) (parts-some bytes)))
    ∙ flat_map-append part_frame (all_but_last (parts before)) (all_but_last rest)
    ∙ ap (λ ps. frames before ++ flat_map part_frame (all_but_last ps)) (sym (open_then before bytes))

pub open_part-append : (before bytes : List ℕ) → open_part (before ++ bytes) ≡ open_part (open_part before ++ bytes)
open_part-append before bytes =
    ap (λ ps. last_of ps) (parts-append before bytes)
    ∙ last-append (all_but_last (parts before)) _ (with-some (open_part before) (parts bytes) (parts-some bytes))
    ∙ ap (λ ps. last_of ps) (sym (open_then before bytes))

-- an END closes the open part
pub frames-end : (before : List ℕ) (b : ℕ) → eqb b 192 ≡ true → frames (before ++ b ∷ []) ≡ frames before ++ frame_of (unescaped (open_part before))
frames-end before b end =
    let cut : parts (b ∷ []) ≡ [] ∷ [] ∷ [] = rw end refl in
    let one : parts (open_part before ++ b ∷ []) ≡ (open_part before ++ []) ∷ [] ∷ [] =
    open_then before (b ∷ []) ∙ ap (λ ps. with_first (open_part before) ps) cut in
    frames-append before (b ∷ [])
    ∙ ap (λ ps. frames before ++ flat_map part_frame (all_but_last ps)) one
    ∙ ap (λ l. frames before ++ l) (append-nil _ ∙ ap (λ part. part_frame part) (append-nil (open_part before)))

pub open_part-end : (before : List ℕ) (b : ℕ) → eqb b 192 ≡ true → open_part (before ++ b ∷ []) ≡ []
open_part-end before b end =
    let cut : parts (b ∷ []) ≡ [] ∷ [] ∷ [] = rw end refl in
    open_part-append before (b ∷ []) ∙ ap (λ ps. last_of ps) (open_then before (b ∷ []) ∙ ap (λ ps. with_first (open_part before) ps) cut)

-- bytes without an END go on in the open part
pub frames-plain : (before bytes : List ℕ) → parts bytes ≡ bytes ∷ [] → frames (before ++ bytes) ≡ frames before ++ []
frames-plain before bytes plain =
    frames-append before bytes
    ∙ ap (λ ps. frames before ++ flat_map part_frame (all_but_last ps)) (open_then before bytes ∙ ap (λ ps. with_first (open_part before) ps) plain)

pub open_part-plain : (before bytes : List ℕ) → parts bytes ≡ bytes ∷ [] → open_part (before ++ bytes) ≡ open_part before ++ bytes
open_part-plain before bytes plain =
    open_part-append before bytes ∙ ap (λ ps. last_of ps) (open_then before bytes ∙ ap (λ ps. with_first (open_part before) ps) plain)

pub parts-byte : (b : ℕ) → eqb b 192 ≡ false → parts (b ∷ []) ≡ (b ∷ []) ∷ []
parts-byte b plain = rw plain refl
