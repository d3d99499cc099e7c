-- The schedule of a seed.
use Rattle.link_replay.proofs.Prelude.{range_with_len, ◌≡◌, ℕ, suc, ◌+◌, ◌/◌, ◌%◌, ◌<◌, Bool, List, [], ◌∷◌, ◌++◌, length, map, replicate}
use Rattle.link_replay.proofs.Prelude.{refl, sym, ap, subst, ◌∙◌, arith, append_assoc, flat_map, mod-lt, length-map, flat_map-cons}
use Rattle.link_replay.proofs.Prelude.{length-range_with_len, AppSpec, is_served, no_hits, web_spec, Plan, Again, Round, Bad, Why, plays}
use Rattle.link_replay.proofs.Prelude.{plays_from, World, Full, AreKept, FineLines, IsKept, IsOpening, keeps_again, keeps_half, keeps_lose}
use Rattle.link_replay.proofs.Prelude.{keeps_reverse, keeps_round, keeps_tick, keeps_twice, kept_append, kept_fine, kept_replicate}
use Rattle.link_replay.proofs.Prelude.{opening_ready, opens_fine, opening_for, plan_from, server, event_at, refusal_at, client_of}
use Rattle.link_replay.proofs.Prelude.{event_drawn, events_of, happens, numbered_from, words_from, of_drawn, OnlyFull}
use Rattle.link_schedule.specs.declared.event.Event.{Event}
use Rattle.link_schedule.specs.declared.event.Event.TheVariants.{Opens}

events_numbered : (number : ℕ) (events : List Event) → map event_at (numbered_from number events) ≡ events
events_numbered number [] = refl
events_numbered number (event ∷ events) = ap (λ (l : List Event). event ∷ l) (events_numbered (number + 1) events)

length-plan_from : (number : ℕ) (plans : List Plan) → length (plan_from number plans) ≡ length plans
length-plan_from number [] = refl
length-plan_from number (plan ∷ plans) = ap suc (length-plan_from (number + 1) plans)

module _ (m : AppSpec) (served : ℕ → Bool) (n : ℕ) (some : 0 < n) where
  event_kept : (rest k : ℕ) → k < n → IsKept m served n (event_drawn rest (1 + k))
  event_kept rest k lt =
      let last : suc k ≡ 1 + k = omega arith in
      of_drawn (IsKept m served n) rest (1 + k) (keeps_round m served n) (keeps_twice m served n) (keeps_reverse m served n)
      (keeps_half m served n) (keeps_lose m served n)
      (subst (λ (i : ℕ). IsKept m served n (Again i)) last (keeps_again m served n k lt))

  words_kept : (words : List ℕ) → AreKept m served n (flat_map (happens n) words)
  words_kept [] = tt
  words_kept (word ∷ words) =
      subst (AreKept m served n) (sym (flat_map-cons (happens n) word words))
      (event_kept (word % 8) (word / 8 % n) (mod-lt (word / 8) some), (keeps_tick m served n 1, words_kept words))

  rest_kept : (words : List ℕ) → AreKept m served n (flat_map (happens n) words ++ replicate 40 Round)
  rest_kept words = kept_append m served n (flat_map (happens n) words) (replicate 40 Round) (words_kept words)
      (kept_replicate m served n 40 Round (keeps_round m served n))

  made_fine : (seed : ℕ) (w : World) → IsOpening n 0 w → FineLines (plays m served (events_of seed n) w)
  made_fine seed w ready =
      let words = words_from seed in
      let rest = flat_map (happens n) words ++ replicate 40 Round in
      subst (λ (events : List Event). FineLines (plays_from m served 0 events w))
      (sym (append_assoc (map (λ k. Opens k) (range_with_len 1 n)) (flat_map (happens n) words) (replicate 40 Round)))
      (opens_fine m served n n 0 0 w rest (omega arith) ready (λ place v spoken. kept_fine m served n rest place v (rest_kept words) spoken))

pub only_full : OnlyFull
only_full files seed clients line reason some refused =
    let plans = map client_of (range_with_len 1 clients) in
    let size : length (plan_from 1 plans) ≡ clients = length-plan_from 1 plans ∙ length-map (range_with_len 1 clients) client_of
    ∙ length-range_with_len 1 clients in
    let ready : IsOpening clients 0 (opening_for (no_hits files) plans) =
    subst (λ (n : ℕ). IsOpening n 0 (opening_for (no_hits files) plans)) size (opening_ready server (no_hits files) (plan_from 1 plans)) in
    let fine = subst (λ (events : List Event). FineLines (plays (web_spec files) is_served events (opening_for (no_hits files) plans)))
    (sym (events_numbered (clients + 1) (events_of seed clients))) (made_fine (web_spec files) is_served clients some seed
    (opening_for (no_hits files) plans) ready) in
    let full : refused.fault ≡ Full = subst FineLines refused.meant_so fine in
    let reported : Bad line Why.Full ≡ Bad line reason = ap (refusal_at line) (sym full) ∙ refused.reported in
    cc
