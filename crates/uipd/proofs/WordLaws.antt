-- Numbers and commands in words.
use Rattle.uipd.proofs.Prelude.{◌≡◌, ℕ, ◌-◌, ◌^◌, ◌<◌, true, false, cond, List, [], ◌∷◌, length, nat_lt, Option, None, Some, rules, Result}
use Rattle.uipd.proofs.Prelude.{Ok, Err, refl, sym, ap, ◌∙◌, arith, map, string_bytes, String, Global, Bool, codes, option_map, slice_get}
use Rattle.uipd.proofs.Prelude.{length-map, slice_get-map, option_map_or, bytes_eq, list_all, result_ok, OkIff, digits_value}
use Rattle.uipd.proofs.Prelude.{ParsesUnsigned, ltb-true, lt-ltb, IsNumeralModel, numerals_by_value, parse_digits, ether_words, optionally}
use Rattle.uipd.proofs.Prelude.{ends_in_tty}

-- fewer than two words name no number
pub few : {A X : Type 0} (f : A → List ℕ) (name : List ℕ) (otherwise : ℕ) (further : ℕ → List (List ℕ) → Option X) (words : List A) → length words < 2
    → further otherwise (map f words) ≡ optionally name otherwise further (map f words)
few f name otherwise further [] h = refl
few f name otherwise further (a ∷ []) h = refl
few f name otherwise further (a ∷ b ∷ words) h = absurd (omega arith)

-- and fewer than three no hardware address
pub few_for_ether : {A : Type 0} (f : A → List ℕ) (words : List A) → length words < 3 → None ≡ ether_words (map f words)
few_for_ether f [] h = refl
few_for_ether f (a ∷ []) h = refl
few_for_ether f (a ∷ b ∷ []) h = refl
few_for_ether f (a ∷ b ∷ c ∷ words) h = absurd (omega arith)

-- whether this is the word of a terminal
abbrev pub is_tty : Option (List ℕ) → Bool
is_tty word = option_map_or (λ text. bytes_eq text (codes "tty")) word false

-- the last word states whether the line is a terminal
pub last_reported : (words : List (String Global)) (found : Option (String Global)) → found ≡ slice_get words (length words - 1)
    → is_tty (option_map string_bytes found) ≡ ends_in_tty (map string_bytes words)
last_reported words found is =
    ap (λ o. is_tty (option_map string_bytes o)) is
    ∙ sym (ap is_tty (slice_get-map string_bytes words (length words - 1)))
    ∙ ap (λ n. is_tty (slice_get (map string_bytes words) (n - 1))) (sym (length-map words string_bytes))
