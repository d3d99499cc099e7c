-- A piece of a text, written at its offset of the buffer.
use Rattle.generators.proofs.Prelude.{◌≡◌, ℕ, ◌+◌, ◌-◌, ◌<◌, ◌≤◌, List, [], ◌∷◌, ◌++◌, append_assoc, replicate, flat_map, subst, length}
use Rattle.generators.proofs.Prelude.{take, drop, min, get_or, refl, sym, ap, ◌∙◌, arith, inl, inr, slice_range, length-append, length-drop}
use Rattle.generators.proofs.Prelude.{get_or_append_left, get_or-append_right, get_or-take, get_or-drop, length-take, take_all}
use Rattle.generators.proofs.Prelude.{flat_map_more, take_more, drop-replicate, length-replicate, cases_lt, HoldsPart, Place}

-- a place before the piece is as it was
before_piece : (out q : List ℕ) (to k : ℕ) → k < to → to ≤ length out → get_or (take to out ++ q ++ drop (to + length q) out) k 0 ≡ get_or out k 0
before_piece out q to k h room =
    let l : length (take to out) ≡ to = omega (arith, length-take to out) in
    let a : k < length (take to out) = omega arith in
    let b : k < length (take to out ++ q) = omega (arith, length-append (take to out) q) in
    get_or_append_left (take to out ++ q) (drop (to + length q) out) 0 k b
    ∙ (get_or_append_left (take to out) q 0 k a ∙ get_or-take to out k 0 h)

-- a place of the piece has its byte
in_piece : (out q : List ℕ) (to i : ℕ) → i < length q → to ≤ length out → get_or (take to out ++ q ++ drop (to + length q) out) (to + i) 0 ≡ get_or q i 0
in_piece out q to i h room =
    let l : length (take to out) ≡ to = omega (arith, length-take to out) in
    let b : to + i < length (take to out ++ q) = omega (arith, length-append (take to out) q) in
    let m : to ≤ to + i = omega arith in
    let s : to + i - to ≡ i = omega arith in
    get_or_append_left (take to out ++ q) (drop (to + length q) out) 0 (to + i) b
    ∙ (get_or-append_right (take to out) q to (to + i) 0 l m ∙ ap (λ j. get_or q j 0) s)

-- how long the buffer is after the writing
after_length : (out q : List ℕ) (to : ℕ) → to + length q ≤ length out → length (take to out ++ q ++ drop (to + length q) out) ≡ length out
after_length out q to room =
    omega (
      arith,
      length-append (take to out ++ q) (drop (to + length q) out),
      length-append (take to out) q,
      length-take to out,
      length-drop (to + length q) out,
    )

-- the piece's byte as the text's
text_byte : (text piece : List ℕ) (at from i : ℕ) → length text ≤ at → at - length text ≡ from + i → get_or (text ++ piece) at 0 ≡ get_or piece (from + i) 0
text_byte text piece at from i late e =
    get_or-append_right text piece (length text) at 0 refl late ∙ ap (λ j. get_or piece j 0) e

part_byte : (piece : List ℕ) (from count i : ℕ) → i < count → get_or (slice_range piece from (from + count)) i 0 ≡ get_or piece (from + i) 0
part_byte piece from count i h =
    let l : i < from + count - from = omega arith in
    get_or-take (from + count - from) (drop from piece) i 0 l ∙ get_or-drop from piece i 0

part_length : (piece : List ℕ) (from count : ℕ) → from + count ≤ length piece → length (slice_range piece from (from + count)) ≡ count
part_length piece from count h =
    omega (arith, length-take (from + count - from) (drop from piece), length-drop from piece)

late_byte : (text piece out : List ℕ) (place : Place) (from to count k : ℕ) →
    from ≡ min (place.at - length text) (length piece) → to ≡ min (length text - place.at) (length out) →
    count ≡ min (length piece - from) (length out - to) → k < length out → place.at + k < length text + length piece → length text ≤ place.at + k →
    (to + (k - to) ≡ k) × (k - to < count) × (place.at + k - length text ≡ from + (k - to))
late_byte text piece out place from to count k f t n within there late = (omega arith, omega arith, omega arith)

early_place : (text out : List ℕ) (place : Place) (to k : ℕ) → to ≡ min (length text - place.at) (length out) → k < length out
    → place.at + k < length text → k < to
early_place text out place to k t within early = omega arith

fits : (text piece out : List ℕ) (place : Place) (from to count : ℕ) →
    from ≡ min (place.at - length text) (length piece) → to ≡ min (length text - place.at) (length out) →
    count ≡ min (length piece - from) (length out - to) → (from + count ≤ length piece) × (to + count ≤ length out) × (to ≤ length out)
fits text piece out place from to count f t n = (omega arith, omega arith, omega arith)

pub put_holds : (text piece out : List ℕ) (place : Place) (from to count : ℕ) →
    from ≡ min (place.at - place.so_far) (length piece) → to ≡ min (place.so_far - place.at) (length out) →
    count ≡ min (length piece - from) (length out - to) → HoldsPart text place out →
    HoldsPart (text ++ piece) (record { at = place.at; so_far = place.so_far + length piece })
    (take to out ++ slice_range piece from (from + count) ++ drop (to + length (slice_range piece from (from + count))) out)
put_holds text piece out place from to count f t n h =
    let q : List ℕ = slice_range piece from (from + count) in
    let f' : from ≡ min (place.at - length text) (length piece) = f ∙ ap (λ s. min (place.at - s) (length piece)) h.so_far in
    let t' : to ≡ min (length text - place.at) (length out) = t ∙ ap (λ s. min (s - place.at) (length out)) h.so_far in
    let room = fits text piece out place from to count f' t' n in
    let lq : length q ≡ count = part_length piece from count room.0 in
    let wide : length (take to out ++ q ++ drop (to + length q) out) ≡ length out = after_length out q to (omega (arith, room.1, lq)) in
    record {
      so_far = omega (arith, h.so_far, length-append text piece);
      part = λ k within there.
          let inside : k < length out = omega (arith, within, wide) in
          elim (cases_lt (place.at + k) (length text)) [
            | inl early ↦
                before_piece out q to k (early_place text out place to k t' inside early) room.2
                ∙ (h.part k inside early ∙ sym (get_or_append_left text piece 0 (place.at + k) early))
            | inr late ↦
                let b = late_byte text piece out place from to count k f' t' n inside (omega (arith, there, length-append text piece)) late in
                ap (λ j. get_or (take to out ++ q ++ drop (to + length q) out) j 0) (sym b.0)
                ∙ (in_piece out q to (k - to) (omega (arith, b.1, lq)) room.2
                ∙ (part_byte piece from count (k - to) b.1
                ∙ sym (text_byte text piece (place.at + k) from (k - to) late b.2)))
          ];
    }

-- two pieces that were appended to a text are one
pub holds_joined : (text a b c : List ℕ) (place : Place) (out : List ℕ) → HoldsPart (text ++ a ++ b) place out → a ++ b ≡ c → HoldsPart (text ++ c) place out
holds_joined text a b c place out h e =
    let P : List ℕ → Type 0 = λ xs. HoldsPart xs place out in
    subst P (append_assoc text a b ∙ ap (λ xs. text ++ xs) e) h

-- one item more
pub flat_map_next : {X : Type 0} (f : X → List ℕ) (xs : List X) (i : ℕ) (x : X) → i < length xs → x ≡ get_or xs i x → flat_map f (take i xs)
    ++ f x ≡ flat_map f (take (i + 1) xs)
flat_map_next {X} f xs i x h e =
    ap (λ (y : X). flat_map f (take i xs) ++ f y) e
    ∙ (flat_map_more f [] (take i xs) (get_or xs i x) ∙ ap (λ (ys : List X). flat_map f ys) (sym (take_more xs i x h)))
