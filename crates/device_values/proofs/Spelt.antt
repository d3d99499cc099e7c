-- A text that is escaped byte by byte.
use Rattle.device_values.proofs.Prelude.{◌≡◌, ℕ, ◌+◌, ◌<◌, List, ◌++◌, ap, ◌∙◌, flat_map, get_or, length, take, get_or_default}
use Rattle.device_values.proofs.Prelude.{flat_map_next}

-- one byte more is spelled
pub one_more : (f : ℕ → List ℕ) (text before now : List ℕ) (at : ℕ) → before ≡ flat_map f (take at text) → now ≡ before ++ f (get_or text at 0)
    → at < length text → now ≡ flat_map f (take (at + 1) text)
one_more f text before now at so_far is within =
    is ∙ ap (λ prefix. prefix ++ f (get_or text at 0)) so_far
    ∙ flat_map_next f text at (get_or text at 0) within (get_or_default text at 0 (get_or text at 0) within)
