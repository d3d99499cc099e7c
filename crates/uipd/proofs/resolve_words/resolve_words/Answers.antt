-- [add: told-command] Words: a folder for each function that reads them, as this one.
use Rattle.uipd.proofs.Prelude.{◌≡◌, ◌<◌, ℕ, List, [], ◌∷◌, None, refl, sym, arith, length, map, string_bytes, resolve_words}
use Rattle.uipd.proofs.resolve_words.resolve_words.Goals as goal

-- fewer than three words have not the form
few : {A : Type 0} (f : A → List ℕ) (words : List A) → length words < 3 → None ≡ resolve_words (map f words)
few f [] h = refl
few f (a ∷ []) h = refl
few f (a ∷ b ∷ []) h = refl
few f (a ∷ b ∷ c ∷ words) h = absurd (omega arith)

pub returns-in_default : goal.returns-in_default
returns-in_default c = few string_bytes c.args.words.now c.in_default.len_below
