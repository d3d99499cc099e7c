-- The hits are the prefix of the counters. What follows them, the own state, changes no hit, and no hit changes it.
use Rattle.web_pages.proofs.Prelude.{◌≡◌, ℕ, ◌<◌, ◌+◌, ◌%◌, ◌^◌, zero, suc, List, [], ◌∷◌, ◌++◌, length, drop, refl, ap, ◌∙◌, arith, Option}
use Rattle.web_pages.proofs.Prelude.{Some, None, slice_index_or, option_map_or, bytes_eq, slice_set, drop_at, position-Some, File, Now}
use Rattle.web_pages.proofs.Prelude.{ScriptFunctions, Wanted, NotYet, Refused, Name, place_of, hits_of, made_by, hit_at, hits_by}

index_prefix : (xs ys : List ℕ) (place : ℕ) → place < length xs → slice_index_or (xs ++ ys) place 0 ≡ slice_index_or xs place 0
index_prefix [] ys place lt = absurd (omega (arith, lt))
index_prefix (x ∷ xs) ys zero lt = refl
index_prefix (x ∷ xs) ys (suc place) lt = index_prefix xs ys place (omega (arith, lt))

set_prefix : (xs ys : List ℕ) (place v : ℕ) → place < length xs → slice_set (xs ++ ys) place v ≡ slice_set xs place v ++ ys
set_prefix [] ys place v lt = absurd (omega (arith, lt))
set_prefix (x ∷ xs) ys zero v lt = refl
set_prefix (x ∷ xs) ys (suc place) v lt = ap (λ zs. x ∷ zs) (set_prefix xs ys place v (omega (arith, lt)))

hit_prefix : (hits own : List ℕ) (place : ℕ) → place < length hits → hit_at (hits ++ own) (Some place) ≡ hit_at hits (Some place) ++ own
hit_prefix hits own place lt =
    ap (λ n. slice_set (hits ++ own) place ((n + 1) % 2 ^ 32)) (index_prefix hits own place lt)
    ∙ set_prefix hits own place ((slice_index_or hits place 0 + 1) % 2 ^ 32) lt

no_file : File
no_file = record { name = []; kind = []; content = [] }

place_within : (files : List File) (name : List ℕ) (place : ℕ) → place_of files name ≡ Some place → place < length files
place_within files name place e = (position-Some (λ (file : File). bytes_eq file.name name) files place no_file e).0

-- the hits of the file that an argument names
hits_prefix : (files : List File) (hits own argument : List ℕ) → length hits ≡ length files
    → hits_of files (hits ++ own) argument ≡ hits_of files hits argument
hits_prefix files hits own argument counted = by_place (place_of files argument) refl
  where
    by_place : (place : Option ℕ) → place_of files argument ≡ place
        → option_map_or (λ at. slice_index_or (hits ++ own) at 0) place 0 ≡ option_map_or (λ at. slice_index_or hits at 0) place 0
    by_place None e = refl
    by_place (Some at) e = (let within = place_within files argument at e in index_prefix hits own at (omega (arith, within, counted)))

-- the text of a call is a function of the hits and the own state, apart
pub made_prefix : {F : Type 0} (g : ScriptFunctions F) (files : List File) (hits own : List ℕ) (function : F) (argument : List ℕ) (now : Now)
    → length hits ≡ length files
    → made_by g files function argument (record { numbers = hits ++ own; now = now }) ≡ g.output function argument (hits_of files hits argument) own now
made_prefix g files hits own function argument now counted =
    λ i. g.output function argument (hits_prefix files hits own argument counted i) (drop_at hits own (length files) counted i) now

-- the hits after more of a request
pub hits_by_prefix : (files : List File) (hits own : List ℕ) (before after : Wanted) → length hits ≡ length files
    → hits_by files (hits ++ own) before after ≡ hits_by files hits before after ++ own
hits_by_prefix files hits own NotYet NotYet counted = refl
hits_by_prefix files hits own NotYet Refused counted = refl
hits_by_prefix files hits own NotYet (Name name) counted = by_place (place_of files name) refl
  where
    by_place : (place : Option ℕ) → place_of files name ≡ place → hit_at (hits ++ own) place ≡ hit_at hits place ++ own
    by_place None e = refl
    by_place (Some at) e = (let within = place_within files name at e in hit_prefix hits own at (omega (arith, within, counted)))
hits_by_prefix files hits own Refused after counted = refl
hits_by_prefix files hits own (Name name) after counted = refl
