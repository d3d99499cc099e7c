-- Options that are skipped.
use Rattle.tcp_segment.proofs.Prelude.{◌≡◌, ℕ, zero, suc, ◌<◌, Bool, true, false, List, [], ◌∷◌, length, drop, slice_index, Some, refl, sym}
use Rattle.tcp_segment.proofs.Prelude.{ap, ◌∙◌, arith, if◌then◌else◌, option_and_then, trailing_bytes, is_mss, mss_after, mss_in}

skip_drop : (n : ℕ) (options : List ℕ) → mss_after n options ≡ mss_in (drop n options)
skip_drop zero options = refl
skip_drop (suc n) [] = refl
skip_drop (suc n) (byte ∷ options) = skip_drop n options

otherwise : {A : Type 0} (b : Bool) (x y : A) → b ≡ false → (if b then x else y) ≡ y
otherwise true x y e = absurd (cc)
otherwise false x y e = refl

pub next_option : (options : List ℕ) (count : ℕ) → 0 < length options → is_mss (slice_index options 0) (drop 1 options) ≡ false
    → trailing_bytes (slice_index options 0) (drop 1 options) ≡ Some count
    → mss_in (drop count (drop 1 options)) ≡ mss_in options
next_option [] count some other behind = absurd (omega arith)
next_option (kind ∷ rest) count some other behind =
    sym (otherwise _ _ _ other ∙ ap (λ o. option_and_then (λ n. mss_after n rest) o) behind ∙ skip_drop count rest)
