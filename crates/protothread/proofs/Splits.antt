-- A text of two parts, of which a prefix is dropped: part of the first, or all of it and part of the second.
use Rattle.std.proofs.Common.{◌≡◌, ℕ, ◌+◌, ◌-◌, ◌≤◌, List, ◌++◌, length, take, drop, min, sym, ap, ◌∙◌, arith, inl, inr, slice_range}
use Rattle.std.proofs.lemmas.List.{drop_all, drop-append-le, drop-drop, drop-take}
use Rattle.std.proofs.lemmas.Bool.{cases_lt}
use Rattle.std.proofs.Math.Seq.{drop-append-add}

pub drop_split : (a b : List ℕ) (m n : ℕ) → m ≡ min (length a) n → drop m a ++ drop (n - m) b ≡ drop n (a ++ b)
drop_split a b m n e =
    elim (cases_lt n (length a)) [
      | inl h ↦
          let p : m ≡ n = omega arith in
          let q : n - n ≡ 0 = omega arith in
          let s : n ≤ length a = omega arith in
          rw p (rw q (sym (drop-append-le n a b s)))
      | inr h ↦
          let p : length a ≤ m = omega arith in
          let q : n ≡ length a + (n - m) = omega arith in
          ap (λ prefix. prefix ++ drop (n - m) b) (drop_all m a p)
          ∙ sym (ap (λ k. drop k (a ++ b)) q ∙ drop-append-add a b (n - m))
    ]

-- a run that begins later
pub run_rest : (w : List ℕ) (at end n : ℕ) → n ≤ end - at → slice_range w (at + n) end ≡ drop n (slice_range w at end)
run_rest w at end n h =
    let p : end - at ≡ n + (end - (at + n)) = omega arith in
    rw p
    (sym (drop-take n (end - (at + n)) (drop at w) ∙ ap (λ rest. take (end - (at + n)) rest) (drop-drop n at w)))
