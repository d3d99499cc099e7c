-- The invariant of the search: ranks below the low one have smaller names, ranks from the high one on have greater names.
use Rattle.file_tree.proofs.Prelude.{◌≡◌, ℕ, ◌+◌, ◌<◌, ◌≤◌, List, length, subst, inl, inr, arith, cases_lt, cases_eq, File, FileId}
use Rattle.file_tree.proofs.Prelude.{IsBefore, name_at, IsOrder, IsSlot}
use Rattle.file_tree.proofs.NameLemmas.{before-trans}

pub record Searches (files : List File) (order : List FileId) (name : List ℕ) (low high : ℕ) : Type 0 where
  pub ordered : low ≤ high
  pub within : high ≤ length order
  pub below : (rank : ℕ) → rank < low → IsBefore (name_at files order rank) name
  pub above : (rank : ℕ) → high ≤ rank → rank < length order → IsBefore name (name_at files order rank)

pub search-above : (files : List File) (order : List FileId) (name : List ℕ) (low high middle : ℕ) → IsOrder files order → Searches files order name low high
    → low ≤ middle → middle < high → IsBefore (name_at files order middle) name → Searches files order name (middle + 1) high
search-above files order name low high middle is s from lt before =
    let within = s.within in
    record {
      ordered = omega arith;
      within = s.within;
      below = λ rank less. elim (cases_lt rank middle) [
        | inl earlier ↦ before-trans (name_at files order rank) (name_at files order middle) name (is.rising rank middle earlier (omega arith)) before
        | inr later ↦ let here : middle ≡ rank = omega arith in subst (λ k. IsBefore (name_at files order k) name) here before
      ];
      above = s.above;
    }

pub search-below : (files : List File) (order : List FileId) (name : List ℕ) (low high middle : ℕ) → IsOrder files order → Searches files order name low high
    → low ≤ middle → middle < high → IsBefore name (name_at files order middle) → Searches files order name low middle
search-below files order name low high middle is s from lt after =
    let within = s.within in
    record {
      ordered = from;
      within = omega arith;
      below = s.below;
      above = λ rank higher less. elim (cases_eq middle rank) [
        | inl here ↦ subst (λ k. IsBefore name (name_at files order k)) here after
        | inr other ↦ before-trans name (name_at files order middle) (name_at files order rank) after (is.rising middle rank (omega arith) less)
      ];
    }
