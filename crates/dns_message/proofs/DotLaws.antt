-- A text cut at its first dot.
use Rattle.dns_message.proofs.Prelude.{◌≡◌, ℕ, ◌+◌, ◌<◌, ◌≤◌, suc, Bool, true, false, ◌&&◌, eqb, List, [], ◌∷◌, ◌++◌, length, take, drop}
use Rattle.dns_message.proofs.Prelude.{get_or, refl, sym, ap, ◌∙◌, arith, add-one, length-take, Option, None, Some, is_some, nat_le}
use Rattle.dns_message.proofs.Prelude.{split_at, get_or-take, All-from_get_or, length-slice_split, slice_split_at, slice_split_none}
use Rattle.dns_message.proofs.Prelude.{IsFirstByte, is_byte, labels}

not_true : (b : Bool) → (b ≡ true → ⊥) → b ≡ false
not_true true h = absurd (h refl)
not_true false h = refl

pub uncut : (text : List ℕ) → IsFirstByte (is_byte 46) text None → labels text ≡ text ∷ []
uncut text none =
    slice_split_none (λ c. eqb c 46) text
    (All-from_get_or (λ c. eqb c 46 ≡ false) text 0 (λ i h. not_true (eqb (get_or text i 0) 46) (none i (omega arith) h)))

pub cut : (text : List ℕ) (k : ℕ) → IsFirstByte (is_byte 46) text (Some k) → labels text ≡ take k text ∷ labels (drop (k + 1) text)
cut text k found =
    let high : k < length text = found.0.high in
    let whole : text ≡ take k text ++ get_or text k 0 ∷ drop (k + 1) text = rw (add-one k) (split_at text k 0 high) in
    let prefix : (i : ℕ) → i < length (take k text) → eqb (get_or (take k text) i 0) 46 ≡ false =
    λ i h.
    let low : i < k = omega (arith, length-take k text) in
    ap (λ c. eqb c 46) (get_or-take k text i 0 low) ∙ not_true (eqb (get_or text i 0) 46) (found.0.before i (omega arith) low) in
    ap (λ l. labels l) whole
    ∙ slice_split_at (λ c. eqb c 46) (take k text) (get_or text k 0) (drop (k + 1) text)
    (All-from_get_or (λ c. eqb c 46 ≡ false) (take k text) 0 prefix) found.1

-- there is one label at least
pub some_label : (text : List ℕ) → 1 ≤ length (labels text)
some_label text = omega (arith, length-slice_split (λ c. eqb c 46) text)

at_least : (n : ℕ) → 1 ≤ n → nat_le 2 (suc n) ≡ true
at_least n h = grind arith

-- a dot parts two labels
pub dots_reported : (text : List ℕ) (r : Option ℕ) → IsFirstByte (is_byte 46) text r → is_some r ≡ nat_le 2 (length (labels text))
dots_reported text None none = sym (ap (λ l. nat_le 2 (length l)) (uncut text none))
dots_reported text (Some k) found =
    sym (ap (λ l. nat_le 2 (length l)) (cut text k found) ∙ at_least (length (labels (drop (k + 1) text))) (some_label (drop (k + 1) text)))

pub and_true : (b : Bool) → (b && true) ≡ b
and_true true = refl
and_true false = refl
