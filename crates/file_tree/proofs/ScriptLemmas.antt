-- What is left of a script: the length of its pieces so far, and whether one of them names no file.
use Rattle.file_tree.proofs.Prelude.{◌≡◌, ℕ, ◌+◌, ◌*◌, ◌<◌, ◌≤◌, Bool, true, false, ◌||◌, List, [], ◌∷◌, refl, ap, inl, ◌∙◌, arith, sum_by}
use Rattle.file_tree.proofs.Prelude.{list_any, or_left, sum_by-cons, Calling, FoundOf, IsPlace, pieces_by, File, misses, piece_length_by}

abbrev pub missing : {F : Type 0} → List File → List ℕ → FoundOf F → Bool
missing files script found = misses files script found.piece

abbrev pub length_of : {F : Type 0} → Calling F → List File → List ℕ → FoundOf F → ℕ
length_of c files script found = piece_length_by c files script found.piece

-- the script was read up to a place
pub record Measures {F : Type 0} (c : Calling F) (files : List File) (script : List ℕ) (at total : ℕ) : Type 0 where
  pub place : IsPlace script at
  pub length_is : sum_by (length_of c files script) (pieces_by c.named script 0) ≡ total + sum_by (length_of c files script) (pieces_by c.named script at)
  pub none : list_any (missing files script) (pieces_by c.named script 0) ≡ list_any (missing files script) (pieces_by c.named script at)
  pub bound : total ≤ at * 16777216

pub measuring-goes-on : {F : Type 0} (c : Calling F) (files : List File) (script : List ℕ) (at total n : ℕ) (found : FoundOf F)
    → Measures c files script at total
    → pieces_by c.named script at ≡ found ∷ pieces_by c.named script found.next → at < found.next → IsPlace script found.next
    → misses files script found.piece ≡ false → n ≡ piece_length_by c files script found.piece → n ≤ 16777216
    → Measures c files script found.next (total + n)
measuring-goes-on c files script at total n found m step less place here is small =
    let rest = pieces_by c.named script found.next in
    let all : sum_by (length_of c files script) (pieces_by c.named script at) ≡ piece_length_by c files script found.piece + sum_by
    (length_of c files script) rest =
    ap (sum_by (length_of c files script)) step ∙ sum_by-cons (length_of c files script) found rest in
    let own = m.length_is in
    let low = m.bound in
    record {
      place = place;
      length_is = omega (arith, all, own, is);
      none = m.none ∙ ap (list_any (missing files script)) step ∙ ap (λ b. b || list_any (missing files script) rest) here;
      bound = omega (arith, low, less, small);
    }

pub measuring-fails : {F : Type 0} (c : Calling F) (files : List File) (script : List ℕ) (at total : ℕ) (found : FoundOf F) → Measures c files script at total
    → pieces_by c.named script at ≡ found ∷ pieces_by c.named script found.next → misses files script found.piece ≡ true
    → list_any (missing files script) (pieces_by c.named script 0) ≡ true
measuring-fails c files script at total found m step here =
    m.none ∙ ap (list_any (missing files script)) step
    ∙ or_left (misses files script found.piece) (list_any (missing files script) (pieces_by c.named script found.next)) here

-- at the end all pieces were read
pub measuring-ends : {F : Type 0} (c : Calling F) (files : List File) (script : List ℕ) (at total : ℕ) → Measures c files script at total
    → pieces_by c.named script at ≡ []
    → (total ≡ sum_by (length_of c files script) (pieces_by c.named script 0)) × (list_any (missing files script) (pieces_by c.named script 0) ≡ false)
measuring-ends c files script at total m none =
    let all : sum_by (length_of c files script) (pieces_by c.named script at) ≡ 0 = ap (sum_by (length_of c files script)) none in
    let own = m.length_is in
    (omega (arith, all, own), m.none ∙ ap (list_any (missing files script)) none)

pub measuring-starts : {F : Type 0} (c : Calling F) (files : List File) (script : List ℕ) → Measures c files script 0 0
measuring-starts c files script = record { place = (omega arith, inl refl); length_is = omega arith; none = refl; bound = omega arith }
