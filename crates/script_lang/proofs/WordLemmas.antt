-- A text has a word at an offset: from windows of four bytes, which may overlap, to the whole word.
use Rattle.script_lang.proofs.Prelude.{◌≡◌, ℕ, ◌+◌, ◌-◌, ◌<◌, ◌≤◌, Bool, ◌&&◌, List, length, min, ap, ◌∙◌, sym, arith, cases_lt, inl, inr}
use Rattle.std.proofs.Common.{get_or, take, drop, length-drop}
use Rattle.std.proofs.lemmas.List.{ext_get_or, get_or-take, get_or-drop, length-take-le, take_rest}
use Rattle.std.proofs.lemmas.Bool.Decides.{Decides-and, Decides-like, same_from_decides}
use Rattle.std.proofs.lemmas.Slice.Eq.{bytes_eq-Decides}
use Rattle.std.specs.List.{slice_range, ends_with}
use Rattle.std.specs.Prelude.{bytes_eq, Decides, nat_eq}

-- the four bytes of the text from an offset on are those of the word from its offset on
abbrev pub SameFour : List ℕ → ℕ → List ℕ → ℕ → Type 0
SameFour text at word from = (k : ℕ) → k < 4 → get_or text (at + k) 0 ≡ get_or word (from + k) 0

-- a byte within a window
within : (text : List ℕ) (at : ℕ) (word : List ℕ) (from i : ℕ) → from ≤ i → i < from + 4 → SameFour text (at + from) word from
    → get_or text (at + i) 0 ≡ get_or word i 0
within text at word from i low high same =
    ap (λ j. get_or text j 0) (omega arith) ∙ same (i - from) (omega arith) ∙ ap (λ j. get_or word j 0) (omega arith)

-- a byte of a part of the text
pub part-byte : (text : List ℕ) (at n i : ℕ) → i < n → get_or (slice_range text at (at + n)) i 0 ≡ get_or text (at + i) 0
part-byte text at n i lt = get_or-take (at + n - at) (drop at text) i 0 (omega arith) ∙ get_or-drop at text i 0

part-length : (text : List ℕ) (at n : ℕ) → at + n ≤ length text → length (slice_range text at (at + n)) ≡ n
part-length text at n room = length-take-le (at + n - at) (drop at text) (omega (arith, length-drop at text)) ∙ (omega arith)

each : (text : List ℕ) (at : ℕ) (word : List ℕ) (second third last : ℕ)
    → second ≡ min last 4 → third ≡ min last 8 → last + 4 ≡ length word → length word ≤ 16
    → SameFour text at word 0 → SameFour text (at + second) word second → SameFour text (at + third) word third → SameFour text (at + last) word last
    → (i : ℕ) → i < length word → get_or text (at + i) 0 ≡ get_or word i 0
each text at word second third last by-four by-eight long few one two three four i lt =
    elim (cases_lt i 4) [
      | inl first ↦ one i first ∙ ap (λ j. get_or word j 0) (omega arith)
      | inr later ↦ elim (cases_lt i last) [
        | inl inner ↦ elim (cases_lt i 8) [
          | inl near ↦ within text at word second i (omega arith) (omega arith) two
          | inr far ↦ within text at word third i (omega arith) (omega arith) three
        ]
        | inr ends ↦ within text at word last i ends (omega arith) four
      ]
    ]

-- a window of a text that has the word there
window : (text : List ℕ) (at : ℕ) (word : List ℕ) (from : ℕ) → from + 4 ≤ length word
    → slice_range text at (at + length word) ≡ word → SameFour text (at + from) word from
window text at word from low same k lt =
    ap (λ j. get_or text j 0) (omega arith) ∙ sym (part-byte text at (length word) (from + k) (omega arith)) ∙ ap (λ xs. get_or xs (from + k) 0) same

first-window : (text : List ℕ) (at : ℕ) (word : List ℕ) → 4 ≤ length word → slice_range text at (at + length word) ≡ word → SameFour text at word 0
first-window text at word low same k lt = ap (λ j. get_or text j 0) (omega arith) ∙ window text at word 0 low same k lt

-- four windows are the same exactly if the text has the word there
pub windows-decide : (text : List ℕ) (at : ℕ) (word : List ℕ) (second third last : ℕ) (a b c d : Bool)
    → at + length word ≤ length text → second ≡ min last 4 → third ≡ min last 8 → last + 4 ≡ length word → length word ≤ 16
    → Decides a (SameFour text at word 0) → Decides b (SameFour text (at + second) word second)
    → Decides c (SameFour text (at + third) word third) → Decides d (SameFour text (at + last) word last)
    → (((a && b) && c) && d) ≡ bytes_eq (slice_range text at (at + length word)) word
windows-decide text at word second third last a b c d room by-four by-eight long few one two three four =
    let part = slice_range text at (at + length word) in
    let sized = part-length text at (length word) room in
    same_from_decides (((a && b) && c) && d) (bytes_eq part word)
    (Decides-like (((a && b) && c) && d)
    (λ same. ext_get_or 0 part word sized
    (λ i lt. part-byte text at (length word) i (omega (arith, sized))
    ∙ each text at word second third last by-four by-eight long few same.0.0.0 same.0.0.1 same.0.1 same.1 i (omega (arith, sized))))
    (λ same. (
      (
        (first-window text at word (omega arith) same, window text at word second (omega arith) same),
        window text at word third (omega arith) same,
      ),
      window text at word last (omega arith) same,
    ))
    (Decides-and ((a && b) && c) d (Decides-and (a && b) c (Decides-and a b one two) three) four))
    (bytes_eq-Decides part word)

five : (text : List ℕ) (at : ℕ) (word : List ℕ) → length word ≡ 5 → SameFour text at word 0 → get_or text (at + 4) 0 ≡ get_or word 4 0
    → (i : ℕ) → i < length word → get_or text (at + i) 0 ≡ get_or word i 0
five text at word long four fifth i lt =
    elim (cases_lt i 4) [
      | inl first ↦ four i first ∙ ap (λ j. get_or word j 0) (omega arith)
      | inr later ↦ ap (λ j. get_or text j 0) (omega arith) ∙ fifth ∙ ap (λ j. get_or word j 0) (omega arith)
    ]

-- a window and the fifth byte are the same exactly if the text has the word of five bytes there
pub five-decide : (text : List ℕ) (at : ℕ) (word : List ℕ) (a b : Bool) → at + length word ≤ length text → length word ≡ 5
    → Decides a (SameFour text at word 0) → Decides b (get_or text (at + 4) 0 ≡ get_or word 4 0)
    → (a && b) ≡ bytes_eq (slice_range text at (at + length word)) word
five-decide text at word a b room long four fifth =
    let part = slice_range text at (at + length word) in
    let sized = part-length text at (length word) room in
    same_from_decides (a && b) (bytes_eq part word)
    (Decides-like (a && b)
    (λ same. ext_get_or 0 part word sized
    (λ i lt. part-byte text at (length word) i (omega (arith, sized)) ∙ five text at word long same.0 same.1 i (omega (arith, sized))))
    (λ same. (
      first-window text at word (omega arith) same,
      sym (part-byte text at (length word) 4 (omega arith)) ∙ ap (λ xs. get_or xs 4 0) same,
    ))
    (Decides-and a b four fifth))
    (bytes_eq-Decides part word)

swapped : (xs ys : List ℕ) → bytes_eq xs ys ≡ bytes_eq ys xs
swapped xs ys = same_from_decides (bytes_eq xs ys) (bytes_eq ys xs) (bytes_eq-Decides xs ys) (Decides-like (bytes_eq ys xs) sym sym (bytes_eq-Decides ys xs))

-- the last bytes of the text are the word
pub end-decides : (text word : List ℕ) → length word ≤ length text
    → bytes_eq (slice_range text (length text - length word) (length text - length word + length word)) word ≡ ends_with nat_eq text word
end-decides text word fits =
    ap (λ m. bytes_eq (take m (drop (length text - length word) text)) word) (omega arith)
    ∙ ap (λ xs. bytes_eq xs word) (take_rest text (length text - length word))
    ∙ swapped (drop (length text - length word) text) word
