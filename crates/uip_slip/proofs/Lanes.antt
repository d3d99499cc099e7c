-- Bytes that are examined together: the offset of the first mark.
use Rattle.uip_slip.proofs.Prelude.{◌≡◌, ℕ, ◌+◌, ◌%◌, ◌^◌, ◌<◌, ◌≤◌, Bool, true, false, cond, not, eqb, ◌||◌, List, [], ◌∷◌, length, take}
use Rattle.uip_slip.proofs.Prelude.{drop, get_or, map, replicate, inl, inr, ◌-◌, true≢false, bit_or, refl, sym, ap, ◌∙◌, arith, prefix_len}
use Rattle.uip_slip.proofs.Prelude.{length-map, first_set_mask_l, mask_l-mod, run_in_chunk_fails, run_in_chunk_le, run_in_chunk_stops}
use Rattle.uip_slip.proofs.Prelude.{slice_range, list_all, cases_lt, IsPlainPrefix, is_mark, is_plain}
use lib.Count.{count_trailing_zeros}
use lib.Lanes.{mask_l, top, zip2}
use Rattle.uip_slip.proofs.PlainLaws.{none_marked}

or_top : (a b : Bool) → top 7 (bit_or (cond a 255 0) (cond b 255 0)) ≡ (a || b)
or_top true true = refl
or_top true false = refl
or_top false true = refl
or_top false false = refl

-- the result of two comparisons of all lanes
abbrev lanes_of : List ℕ → ℕ → List Bool
lanes_of xs n =
    map (top 7) (zip2 bit_or (zip2 (λ a b. cond (eqb a b) 255 0) xs (replicate n 192)) (zip2 (λ a b. cond (eqb a b) 255 0) xs (replicate n 219)))

marks_reported : (xs : List ℕ) → lanes_of xs (length xs) ≡ map is_mark xs
marks_reported [] = refl
marks_reported (x ∷ xs) = λ i. or_top (eqb x 192) (eqb x 219) i ∷ marks_reported xs i

reported_at : (xs : List ℕ) (n : ℕ) → length xs ≡ n → n ≤ 64 → mask_l (lanes_of xs n) % 2 ^ 64 ≡ mask_l (map is_mark xs)
reported_at xs n long few =
    ap (λ k. mask_l (lanes_of xs k) % 2 ^ 64) (sym long) ∙ ap (λ ms. mask_l ms % 2 ^ 64) (marks_reported xs)
    ∙ mask_l-mod (map is_mark xs) 64 (omega (arith, length-map xs is_mark))

-- the lanes before the first mark
pub counted : (n : ℕ) (xs : List ℕ) → length xs ≡ n → n ≤ 64
    → cond (eqb (mask_l (lanes_of xs n) % 2 ^ 64) 0) n (count_trailing_zeros 64 (mask_l (lanes_of xs n) % 2 ^ 64)) ≡ prefix_len (λ b. not (is_mark b)) xs
counted n xs long few =
    ap (λ m. cond (eqb m 0) n (count_trailing_zeros 64 m)) (reported_at xs n long few)
    ∙ first_set_mask_l is_mark xs n long few

-- the two ends of the test
pub none_set : (m n t : ℕ) → m ≡ 0 → cond (eqb m 0) n t ≡ n
none_set m n t e = ap (λ k. cond (eqb k 0) n t) e

pub one_set : (m n t : ℕ) → (eqb m 0 ≡ false) → cond (eqb m 0) n t ≡ t
one_set m n t e = ap (λ b. cond b n t) e

-- a window of n bytes in which r come before the first mark
pub record Window (bytes : List ℕ) (at n r : ℕ) : Type 0 where
  pub le : r ≤ n
  pub fails : (k : ℕ) → at ≤ k → k < at + r → is_mark (get_or bytes k 0) ≡ false
  pub stops : r < n → is_mark (get_or bytes (at + r) 0) ≡ true

pub window : (bytes : List ℕ) (at n r : ℕ) → at + n ≤ length bytes → r ≡ prefix_len (λ b. not (is_mark b)) (slice_range bytes at (at + n)) → Window bytes at n r
window bytes at n r room e =
    let counted : r ≡ prefix_len (λ b. not (is_mark b)) (take n (drop at bytes)) =
    e ∙ ap (λ n. prefix_len (λ b. not (is_mark b)) (take n (drop at bytes))) (let width : at + n - at ≡ n = omega arith in width) in
    record {
      le = run_in_chunk_le is_mark bytes at n r 0 room counted;
      fails = run_in_chunk_fails is_mark bytes at n r 0 room counted;
      stops = run_in_chunk_stops is_mark bytes at n r 0 room counted;
    }

-- the same for the window at the start
pub prefix_plain : (bytes : List ℕ) (n r : ℕ) → Window bytes 0 n r → (k : ℕ) → k < r → is_mark (get_or bytes k 0) ≡ false
prefix_plain bytes n r w k h = w.fails k (omega arith) (omega (arith, h))

pub prefix_stops : (bytes : List ℕ) (n r : ℕ) → Window bytes 0 n r → r < n → is_mark (get_or bytes r 0) ≡ true
prefix_stops bytes n r w h = ap (λ k. is_mark (get_or bytes k 0)) (let same : r ≡ 0 + r = omega arith in same) ∙ w.stops h

-- the bytes before a window and its own
pub none_before : (bytes : List ℕ) (at n r : ℕ) → Window bytes at n r → ((k : ℕ) → k < at → is_mark (get_or bytes k 0) ≡ false)
    → (k : ℕ) → k < at + r → is_mark (get_or bytes k 0) ≡ false
none_before bytes at n r w before k h = elim (cases_lt k at) [ inl early ↦ before k early | inr late ↦ w.fails k late h ]

pub all_plain : (bytes : List ℕ) (n : ℕ) → n ≤ length bytes → ((k : ℕ) → k < n → is_mark (get_or bytes k 0) ≡ false) → list_all is_plain (take n bytes) ≡ true
all_plain bytes n h none = none_marked n bytes h (λ k less e. true≢false (sym e ∙ none k less))

-- a mark is in the window at the start
pub prefix_alone : (bytes : List ℕ) (n r : ℕ) → 0 + n ≤ length bytes → r ≡ prefix_len (λ b. not (is_mark b)) (slice_range bytes 0 (0 + n))
    → r < n → IsPlainPrefix bytes r
prefix_alone bytes n r room e h =
    let w = window bytes 0 n r room e in
    record {
      within = omega (arith, w.le, room);
      plain = all_plain bytes r (omega (arith, w.le, room)) (prefix_plain bytes n r w);
      marked = λ _. prefix_stops bytes n r w h;
    }
