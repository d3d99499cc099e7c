-- A table of faults, row by row.
use Rattle.site_image.proofs.Prelude.{◌≡◌, ℕ, Bool, true, false, if◌then◌else◌, List, [], ◌∷◌, Option, Some, None, refl, ap, ◌∙◌, option_or}
use Rattle.site_image.proofs.Prelude.{SiteWhy, Twice, File, has_name, first_of, text}

-- an earlier file has the name of the entry
abbrev pub twice : List File → List ℕ → Option SiteWhy
twice earlier bytes = if has_name earlier (text bytes) then Some Twice else None

-- where no row of a table holds, none of its tests does
pub four-rows : (a b c d : Bool) (i j k l : SiteWhy) → first_of ((a, i) ∷ (b, j) ∷ (c, k) ∷ (d, l) ∷ []) ≡ None → (a ≡ false) × (b ≡ false)
    × (c ≡ false) × (d ≡ false)
four-rows true b c d i j k l e = absurd cc
four-rows false true c d i j k l e = absurd cc
four-rows false false true d i j k l e = absurd cc
four-rows false false false true i j k l e = absurd cc
four-rows false false false false i j k l e = (refl, refl, refl, refl)

pub two-rows : (a b : Bool) (i j : SiteWhy) → first_of ((a, i) ∷ (b, j) ∷ []) ≡ None → (a ≡ false) × (b ≡ false)
two-rows true b i j e = absurd cc
two-rows false true i j e = absurd cc
two-rows false false i j e = (refl, refl)

-- and back
pub four-none : (a b c d : Bool) (i j k l : SiteWhy) → a ≡ false → b ≡ false → c ≡ false → d ≡ false → first_of ((a, i) ∷ (b, j) ∷ (c, k) ∷ (d, l) ∷ []) ≡ None
four-none false false false false i j k l p q r s = refl
four-none true b c d i j k l p q r s = absurd cc
four-none false true c d i j k l p q r s = absurd cc
four-none false false true d i j k l p q r s = absurd cc
four-none false false false true i j k l p q r s = absurd cc

pub two-none : (a b : Bool) (i j : SiteWhy) → a ≡ false → b ≡ false → first_of ((a, i) ∷ (b, j) ∷ []) ≡ None
two-none false false i j p q = refl
two-none true b i j p q = absurd cc
two-none false true i j p q = absurd cc

-- nothing is wrong with either part
pub no-else : {T : Type 0} (a b : Option T) → option_or a b ≡ None → (a ≡ None) × (b ≡ None)
no-else None b e = (refl, e)
no-else (Some x) b e = absurd cc

pub else-none : {T : Type 0} (a b : Option T) → a ≡ None → b ≡ None → option_or a b ≡ None
else-none a b p q = ap (λ o. option_or o b) p ∙ q
