-- The order of names, and the name of a file by its place in an image.
use Rattle.file_tree.proofs.Prelude.{◌≡◌, ℕ, ◌<◌, List, [], length, get_or, ◌∷◌, refl, sym, ap, subst, ◌∙◌, nat_cmp, ordering_reverse}
use Rattle.file_tree.proofs.Prelude.{ordering_then, MatchOrdering, slice_cmp, Ordering, Less, Equal, Greater, nat_list_cmp_total}
use Rattle.file_tree.proofs.Prelude.{tied_itself, ranked, get_or-map, slice_get_read, Place, File, IsWithin, file_in, files_in, IsBefore}
use Rattle.file_tree.proofs.Prelude.{name_of, AreWithin}

pub before-trans : (a b c : List ℕ) → IsBefore a b → IsBefore b c → IsBefore a c
before-trans a b c p q = nat_list_cmp_total.trans a b c p q

reverse-greater : (r s : Ordering) → s ≡ ordering_reverse r → r ≡ Greater → s ≡ Less
reverse-greater r s e g = e ∙ ap ordering_reverse g

pub before-from-greater : (a b : List ℕ) → slice_cmp nat_cmp a b ≡ Greater → IsBefore b a
before-from-greater a b g = reverse-greater (slice_cmp nat_cmp a b) (slice_cmp nat_cmp b a) (nat_list_cmp_total.antisymm b a) g

-- a name is not before itself
pub not-before-itself : (a b : List ℕ) → a ≡ b → IsBefore a b → ⊥
not-before-itself a b e less =
    let tied = tied_itself nat_list_cmp_total a in
    let same : slice_cmp nat_cmp a b ≡ Equal = ap (slice_cmp nat_cmp a) (sym e) ∙ tied in
    absurd (clash (slice_cmp nat_cmp a b) less same)
  where
    clash : (r : Ordering) → r ≡ Less → r ≡ Equal → ⊥
    clash r p q = absurd cc

-- two names of which the comparison ties are one
both-equal : (r s : Ordering) → ordering_then r s ≡ Equal → (r ≡ Equal) × (s ≡ Equal)
both-equal Less s e = absurd cc
both-equal Equal s e = (refl, e)
both-equal Greater s e = absurd cc

same-number : (x y : ℕ) → nat_cmp x y ≡ Equal → x ≡ y
same-number x y e = subst (λ r. MatchOrdering r (x < y) (x ≡ y) (y < x)) e (ranked x y (nat_cmp x y) refl)

pub same-from-equal : (a b : List ℕ) → slice_cmp nat_cmp a b ≡ Equal → a ≡ b
same-from-equal [] [] e = refl
same-from-equal [] (y ∷ ys) e = absurd cc
same-from-equal (x ∷ xs) [] e = absurd cc
same-from-equal (x ∷ xs) (y ∷ ys) e =
    let both = both-equal (nat_cmp x y) (slice_cmp nat_cmp xs ys) e in
    ap (λ z. z ∷ xs) (same-number x y both.0) ∙ ap (λ zs. y ∷ zs) (same-from-equal xs ys both.1)
