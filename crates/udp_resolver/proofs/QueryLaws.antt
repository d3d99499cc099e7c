-- How the queries grow with events.
use Rattle.udp_resolver.proofs.Prelude.{◌≡◌, ℕ, ◌+◌, ◌<◌, ◌≤◌, Bool, true, false, ◌&&◌, ◌||◌, eqb, leb, ltb, if◌then◌else◌, List, [], ◌∷◌}
use Rattle.udp_resolver.proofs.Prelude.{◌++◌, take, refl, sym, ap, ◌∙◌, arith, append-nil, append_assoc, flat_map, list_any, ages, asked_at}
use Rattle.udp_resolver.proofs.Prelude.{open_ones, queries, Question, before_silence, silences, LineEvent, Silence, asked_next}
use Rattle.udp_resolver.proofs.EventLaws.{one_more, silences-append}
use Rattle.udp_resolver.proofs.FateLaws.{prefix_kept, prefix_last}

same_of : (a b : ℕ) → eqb a b ≡ true → a ≡ b
same_of a b e = grind arith

other_of : (a b : ℕ) → eqb a b ≡ false → (a ≡ b → ⊥)
other_of a b e = grind arith

le_of : (a b : ℕ) → leb a b ≡ true → a ≤ b
le_of a b e = grind arith

gt_of : (a b : ℕ) → leb a b ≡ false → b < a
gt_of a b e = grind arith

both_true : (a b : Bool) → (a && b) ≡ true → (a ≡ true) × (b ≡ true)
both_true true b e = (refl, e)
both_true false b e = absurd (cc e)

-- a list of numbers that rises from a number on
abbrev rising : ℕ → List ℕ → Bool
rising low [] = true
rising low (a ∷ rest) = ltb low a && rising a rest

less_of : (a b : ℕ) → ltb a b ≡ true → a < b
less_of a b e = grind arith

within : (a n m : ℕ) → a ≤ n → m ≡ n → leb a m ≡ true
within a n m h e = grind arith

beyond : (a n m : ℕ) → n < a → m ≡ n → leb a m ≡ false
beyond a n m h e = grind arith

module _ (asked : List Question) where
  -- at an age that was reached before, the same ones are asked
  at_reached : (happened more : List LineEvent) (a : ℕ) → 1 ≤ a → a ≤ silences happened → asked_at asked (happened ++ more) a ≡ asked_at asked happened a
  at_reached happened more a some h =
      ap (λ b. if b then open_ones asked (before_silence a (happened ++ more)) else [])
      (within a (silences (happened ++ more)) (silences (happened ++ more)) (omega (arith, silences-append happened more)) refl)
      ∙ ap (λ l. open_ones asked l) (prefix_kept a happened more some h)
      ∙ sym (ap (λ b. if b then open_ones asked (before_silence a happened) else []) (within a (silences happened) (silences happened) h refl))

  -- and at one that is not reached none
  at_ahead : (happened : List LineEvent) (a : ℕ) → silences happened < a → asked_at asked happened a ≡ []
  at_ahead happened a h = ap (λ b. if b then open_ones asked (before_silence a happened) else []) (beyond a (silences happened) (silences happened) h refl)

  ahead_none : (happened : List LineEvent) (low : ℕ) (list : List ℕ) → rising low list ≡ true → silences happened ≤ low
      → flat_map (asked_at asked happened) list ≡ []
  ahead_none happened low [] r h = refl
  ahead_none happened low (a ∷ rest) r h =
      let p = both_true (ltb low a) (rising a rest) r in
      let less = less_of low a p.0 in
      ap (λ l. l ++ flat_map (asked_at asked happened) rest) (at_ahead happened a (omega arith)) ∙ ahead_none happened a rest p.1 (omega arith)

  -- events without a silence ask nothing
  same_by : (happened more : List LineEvent) (low : ℕ) (list : List ℕ) → silences more ≡ 0 → rising low list ≡ true
      → flat_map (asked_at asked (happened ++ more)) list ≡ flat_map (asked_at asked happened) list
  same_by happened more low [] calm r = refl
  same_by happened more low (a ∷ rest) calm r =
      let p = both_true (ltb low a) (rising a rest) r in
      let less = less_of low a p.0 in
      let count : silences (happened ++ more) ≡ silences happened = omega (arith, silences-append happened more, calm) in
      let first : asked_at asked (happened ++ more) a ≡ asked_at asked happened a =
      elim (leb a (silences happened)) as (λ v. leb a (silences happened) ≡ v → asked_at asked (happened ++ more) a ≡ asked_at asked happened a) [
        | true ↦ λ e. at_reached happened more a (omega arith) (le_of a (silences happened) e)
        | false ↦ λ e.
            at_ahead (happened ++ more) a (omega (arith, count, gt_of a (silences happened) e)) ∙ sym (at_ahead happened a (gt_of a (silences happened) e))
      ] refl in
      ap (λ l. l ++ flat_map (asked_at asked (happened ++ more)) rest) first ∙ ap (λ l. asked_at asked happened a ++ l) (same_by happened more a rest calm p.1)

  pub queries_calm : (happened more : List LineEvent) → silences more ≡ 0 → queries asked (happened ++ more) ≡ queries asked happened
  queries_calm happened more calm = ap (λ l. asked ++ l) (same_by happened more 0 (take 8 ages) calm refl)

  -- a silence asks the open ones again at an age of the list
  more_by : (happened : List LineEvent) (low : ℕ) (list : List ℕ) → rising low list ≡ true
      → flat_map (asked_at asked (happened ++ Silence ∷ [])) list
      ≡ flat_map (asked_at asked happened) list ++ (if list_any (λ a. eqb a (silences happened + 1)) list then open_ones asked happened else [])
  more_by happened low [] r = refl
  more_by happened low (a ∷ rest) r =
      let next = happened ++ Silence ∷ [] in
      let now = silences happened + 1 in
      let p = both_true (ltb low a) (rising a rest) r in
      let less = less_of low a p.0 in
      let count : silences next ≡ now = one_more happened in
      let again = if list_any (λ a. eqb a now) rest then open_ones asked happened else [] in
      let before = flat_map (asked_at asked happened) rest in
      elim (eqb a now) as (λ v. eqb a now ≡ v → flat_map (asked_at asked next) (a ∷ rest) ≡ flat_map (asked_at asked happened) (a ∷ rest)
      ++ (if v || list_any (λ a. eqb a now) rest then open_ones asked happened else [])) [
        | true ↦ λ e.
            let same = same_of a now e in
            ap (λ l. l ++ flat_map (asked_at asked next) rest)
            (ap (λ b. if b then open_ones asked (before_silence a next) else []) (within a now (silences next) (omega arith) count)
            ∙ ap (λ l. open_ones asked l) (prefix_last a happened [] (sym same)))
            ∙ ap (λ l. open_ones asked happened ++ l) (ahead_none next a rest p.1 (omega (arith, count, same)))
            ∙ append-nil (open_ones asked happened)
            ∙ sym (ap (λ l. (l ++ before) ++ open_ones asked happened) (at_ahead happened a (omega arith))
            ∙ ap (λ l. l ++ open_ones asked happened) (ahead_none happened a rest p.1 (omega arith)))
        | false ↦ λ e.
            let other = other_of a now e in
            let first : asked_at asked next a ≡ asked_at asked happened a =
            elim (leb a (silences happened)) as (λ v. leb a (silences happened) ≡ v → asked_at asked next a ≡ asked_at asked happened a) [
              | true ↦ λ h. at_reached happened (Silence ∷ []) a (omega arith) (le_of a (silences happened) h)
              | false ↦ λ h.
                  let far = gt_of a (silences happened) h in
                  at_ahead next a (omega (arith, count, far, other)) ∙ sym (at_ahead happened a far)
            ] refl in
            ap (λ l. l ++ flat_map (asked_at asked next) rest) first ∙ ap (λ l. asked_at asked happened a ++ l) (more_by happened a rest p.1)
            ∙ sym (append_assoc (asked_at asked happened a) before again)
      ] refl

  pub queries_silence : (happened : List LineEvent) → queries asked (happened ++ Silence ∷ []) ≡ queries asked happened ++ asked_next asked happened
  queries_silence happened =
      ap (λ l. asked ++ l) (more_by happened 0 (take 8 ages) refl)
      ∙ sym (append_assoc asked (flat_map (asked_at asked happened) (take 8 ages)) (asked_next asked happened))

  pub queries_first : queries asked [] ≡ asked
  queries_first = append-nil asked
