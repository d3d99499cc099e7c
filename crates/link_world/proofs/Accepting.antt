-- Lines that are refused only for a lack of numbers, and what they leave.
-- [add: schedule-line] When the line is refused.
use Rattle.link_world.proofs.Prelude.{All, range_with_len, ◌≡◌, ℕ, zero, suc, ◌+◌, ◌-◌, ◌<◌, ◌≤◌, ◌%◌, Bool, true, false, List, [], ◌∷◌}
use Rattle.link_world.proofs.Prelude.{◌++◌, length, map, set, filter, replicate, reverse, Option, Some, None, Result, Ok, Err, slice_get}
use Rattle.link_world.proofs.Prelude.{refl, sym, ap, subst, ◌∙◌, arith, inl, inr, eqb, option_map_or, option_or, ◌>>=◌, if◌then◌else◌}
use Rattle.link_world.proofs.Prelude.{flat_map, nat_lt, option_map, ⊤, slice_get-map, Addr, flat_map-cons, cases_lt, All-filter, All-head}
use Rattle.link_world.proofs.Prelude.{All-tail, All-permutation, IsPermutation-reverse, AppSpec, Opens, Again, Tick, Round, Twice, Reverse}
use Rattle.link_world.proofs.Prelude.{Half, Lose, PlainSegment, AbstractClient, ClientStep, client_opens, opens_by, Planned, fresh_side}
use Rattle.link_world.proofs.Prelude.{initial_world, does, is_idle, named_fault, needs, runs, state_at, BadLine, acts_of, mark_after}
use Rattle.link_world.proofs.Prelude.{past_mark, plays_from, plays_line, Sent, Side, World, client_stepped, posts_of_client, with_client}
use Rattle.link_world.proofs.Prelude.{with_side, Act, StepFault, AlreadyOpen, Full, NoDatagram, NotOpen, choose, all_cons, all_nil}
use Rattle.link_world.proofs.Prelude.{get_set_other, get_set_same}
use Rattle.link_schedule.specs.declared.event.Event.{Event}
use Rattle.link_client.specs.declared.client_state.ClientState.TheVariants as Is
use Rattle.link_world.proofs.Doing.{goes_on_with, with_mark}
use Rattle.link_world.proofs.Growing.{Grows, Spoken, does_grows, grows_not, grows_on}

-- it is refused only for a lack of numbers, and leaves the stated fact
abbrev pub Fine : (World → Type 0) → Result World StepFault → Type 0
Fine P (Ok v) = P v
Fine P (Err fault) = fault ≡ Full

abbrev pub FineLines : Result World BadLine → Type 0
FineLines (Ok v) = ⊤
FineLines (Err bad) = bad.why ≡ Full

fine_weaker : (P Q : World → Type 0) (r : Result World StepFault) → ((v : World) → P v → Q v) → Fine P r → Fine Q r
fine_weaker P Q (Ok v) f p = f v p
fine_weaker P Q (Err fault) f p = p

fine_mark : (P : World → Type 0) (mark : ℕ) (r : Result World StepFault) → Fine (λ v. P (record v { mark = mark })) r → Fine P (with_mark mark r)
fine_mark P mark (Ok v) p = p
fine_mark P mark (Err fault) p = p

pub goes_on_fine : (P : World → Type 0) (place : ℕ) (next : World → Result World BadLine) (r : Result World StepFault) → Fine P r
    → ((v : World) → P v → FineLines (next v))
    → FineLines (goes_on_with place next r)
goes_on_fine P place next (Ok v) p f = f v p
goes_on_fine P place next (Err fault) p f = p

-- wherever the world has grown to, the act has no fault of its own
abbrev pub IsFree : World → Act → Type 0
IsFree w act = (v : World) → Grows w v → named_fault v act ≡ None

abbrev pub AreFree : World → List Act → Type 0
AreFree w [] = ⊤
AreFree w (act ∷ more) = IsFree w act × AreFree w more

module _ (m : AppSpec) (served : ℕ → Bool) where
  runs_fine : (all : List Act) (w v : World) → Grows w v → AreFree w all → Fine (Grows w) (runs m served all v)
  runs_fine [] w v g free = g
  runs_fine (act ∷ more) w v g free =
      subst (λ (o : Option StepFault). Fine (Grows w)
      (option_map_or Err (option_or o (if nat_lt 65535 (length v.sent + needs act) then Some Full else None)) (Ok (does m served v act)) >>=
      runs m served more)) (sym (free.0 v g))
      (choose (λ (o : Option StepFault). Fine (Grows w) (option_map_or Err o (Ok (does m served v act)) >>= runs m served more))
      (nat_lt 65535 (length v.sent + needs act)) (Some Full) None
      (λ e. refl)
      (λ e. runs_fine more w (does m served v act) (grows_on w v (does m served v act) g (does_grows m served v act)) free.1))

  -- a line whose acts are free
  pub line_fine : (w : World) (event : Event) → AreFree w (acts_of w event) → Fine (Grows w) (plays_line m served w event)
  line_fine w event free =
      fine_mark (Grows w) (mark_after w event) (runs m served (acts_of w event) w)
      (fine_weaker (Grows w) (λ v. Grows w (record v { mark = mark_after w event })) (runs m served (acts_of w event) w)
      (λ v g. record { sent = g.sent; spoken = g.spoken; planned = g.planned }) (runs_fine (acts_of w event) w w (grows_not w) free))

-- ---- which acts are free

ticks_free : (w : World) (n : ℕ) → AreFree w (replicate n Act.Tick)
ticks_free w zero = tt
ticks_free w (suc n) = ((λ v g. refl), ticks_free w n)

-- a number from 1 to n
abbrev pub IsWithin : ℕ → ℕ → Type 0
IsWithin n k = (1 ≤ k) × (k ≤ n)

there_is : {X : Type 0} (xs : List X) (k : ℕ) → k < length xs → (x : X) × (slice_get xs k ≡ Some x)
there_is [] k lt = absurd (omega (arith, lt))
there_is (x ∷ xs) zero lt = (x, refl)
there_is (x ∷ xs) (suc k) lt = there_is xs k (omega (arith, lt))

give_free : (w : World) (k : ℕ) → IsWithin (length w.sent) k → IsFree w (Act.Give k)
give_free w zero is = λ v g. absurd (omega (arith, is.0))
give_free w (suc k) is = λ v g.
    let le = is.1 in
    let there = there_is v.sent k (omega (arith, le, g.sent)) in
    ap (λ (o : Option Sent). option_map_or {T = Sent} (λ e. None) o (Some NoDatagram)) there.1

gives_free : (w : World) (ks : List ℕ) → All (IsWithin (length w.sent)) ks → AreFree w (map Act.Give ks)
gives_free w [] all = tt
gives_free w (k ∷ ks) all = (give_free w k (All-head (IsWithin (length w.sent)) k ks all), gives_free w ks (All-tail (IsWithin (length w.sent)) k ks all))

twice_free : (w : World) (ks : List ℕ) → All (IsWithin (length w.sent)) ks → AreFree w (flat_map (λ k. Act.Give k ∷ Act.Give k ∷ []) ks)
twice_free w [] all = tt
twice_free w (k ∷ ks) all =
    let one = give_free w k (All-head (IsWithin (length w.sent)) k ks all) in
    subst (AreFree w) (sym (flat_map-cons (λ j. Act.Give j ∷ Act.Give j ∷ []) k ks))
    (one, (one, twice_free w ks (All-tail (IsWithin (length w.sent)) k ks all)))

again_free : (w : World) (k : ℕ) → Spoken w.sides k → IsFree w (Act.Again (suc k))
again_free w k spoken = λ v g. choose (λ (o : Option StepFault). o ≡ None) (is_idle (state_at (slice_get v.sides k))) (Some NotOpen) None
    (λ e. absurd (let no : true ≡ false = sym e ∙ g.spoken k spoken in cc)) (λ e. refl)

-- ---- the lines of a workload

numbers_within : (n start count : ℕ) → 1 ≤ start → count ≤ n + 1 - start → All (IsWithin n) (range_with_len start count)
numbers_within n start zero least most = all_nil (IsWithin n)
numbers_within n start (suc count) least most =
    all_cons (IsWithin n) start (range_with_len (start + 1) count) (least, omega (arith, most))
    (numbers_within n (start + 1) count (omega arith) (omega (arith, most)))

past_within : (w : World) → All (IsWithin (length w.sent)) (past_mark w)
past_within w = numbers_within (length w.sent) (w.mark + 1) (length w.sent - w.mark) (omega arith) (omega arith)

-- each of the first n clients has spoken
abbrev pub AllSpoken : ℕ → World → Type 0
AllSpoken n w = (k : ℕ) → k < n → Spoken w.sides k

module _ (m : AppSpec) (served : ℕ → Bool) (n : ℕ) where
  -- a line after which the clients have sent, and which is refused only for a lack of numbers
  abbrev pub IsKept : Event → Type 0
  IsKept event = (w : World) → AllSpoken n w → Fine (AllSpoken n) (plays_line m served w event)

  kept_by : (event : Event) → ((w : World) → AllSpoken n w → AreFree w (acts_of w event)) → IsKept event
  kept_by event free w spoken =
      fine_weaker (Grows w) (AllSpoken n) (plays_line m served w event) (λ v g k lt. g.spoken k (spoken k lt)) (line_fine m served w event (free w spoken))

  pub keeps_tick : (count : ℕ) → IsKept (Tick count)
  keeps_tick count = kept_by (Tick count) (λ w spoken. ticks_free w count)

  pub keeps_round : IsKept Round
  keeps_round = kept_by Round (λ w spoken. gives_free w (past_mark w) (past_within w))

  pub keeps_twice : IsKept Twice
  keeps_twice = kept_by Twice (λ w spoken. twice_free w (past_mark w) (past_within w))

  pub keeps_reverse : IsKept Reverse
  keeps_reverse = kept_by Reverse (λ w spoken.
      gives_free w (reverse (past_mark w)) (All-permutation (IsWithin (length w.sent)) (past_mark w) (reverse (past_mark w))
      (IsPermutation-reverse (past_mark w)) (past_within w)))

  pub keeps_half : IsKept Half
  keeps_half = kept_by Half (λ w spoken.
      gives_free w (filter (λ k. eqb (k % 2) 1) (past_mark w)) (All-filter (λ k. eqb (k % 2) 1) (IsWithin (length w.sent)) (past_mark w) (past_within w)))

  pub keeps_lose : IsKept Lose
  keeps_lose = kept_by Lose (λ w spoken. tt)

  pub keeps_again : (k : ℕ) → k < n → IsKept (Again (suc k))
  keeps_again k lt = kept_by (Again (suc k)) (λ w spoken. (again_free w k (spoken k lt), tt))

  abbrev pub AreKept : List Event → Type 0
  AreKept [] = ⊤
  AreKept (event ∷ more) = IsKept event × AreKept more

  pub kept_append : (xs ys : List Event) → AreKept xs → AreKept ys → AreKept (xs ++ ys)
  kept_append [] ys a b = b
  kept_append (x ∷ xs) ys a b = (a.0, kept_append xs ys a.1 b)

  pub kept_replicate : (count : ℕ) (event : Event) → IsKept event → AreKept (replicate count event)
  kept_replicate zero event k = tt
  kept_replicate (suc count) event k = (k, kept_replicate count event k)

  pub kept_fine : (events : List Event) (place : ℕ) (w : World) → AreKept events → AllSpoken n w → FineLines (plays_from m served place events w)
  kept_fine [] place w kept spoken = tt
  kept_fine (event ∷ more) place w kept spoken =
      goes_on_fine (AllSpoken n) place (plays_from m served (place + 1) more) (plays_line m served w event) (kept.0 w spoken)
      (λ v s. kept_fine more (place + 1) v kept.1 s)

-- ---- the clients open in turn

-- the first j clients have sent, and those after them, up to n, are idle
pub record IsOpening (n j : ℕ) (w : World) : Type 0 where
  pub spoken : (k : ℕ) → k < j → Spoken w.sides k
  pub idle : (k : ℕ) → j ≤ k → k < n → (side : Side) × (slice_get w.sides k ≡ Some side) × (side.client.state ≡ Is.Idle)

opens_spoken : (c : AbstractClient) → c.state ≡ Is.Idle → (client_opens c).client.state ≡ Is.Opening
unfolding opens_by
opens_spoken c idle = ap (λ st. (opens_by st c).client.state) idle

same_sides : (w : World) (number : ℕ) (x : Option PlainSegment) → (posts_of_client w number x).sides ≡ w.sides
same_sides w number None = refl
same_sides w number (Some s) = refl

-- what is left when client j + 1 has opened
opened_one : (n j : ℕ) (w : World) (side : Side) (took : ClientStep) → slice_get w.sides j ≡ Some side → took.client.state ≡ Is.Opening → IsOpening n j w
    → (v : World) → v.sides ≡ set w.sides j (with_client side took.client) → IsOpening n (j + 1) v
opened_one n j w side took at state is v sides = record {
  spoken = λ k lt. subst (λ (l : List Side). Spoken l k) (sym sides) (by_place k lt);
  idle = λ k ge lt.
      let was = is.idle k (omega (arith, ge)) lt in (
        was.0,
        ap (λ (l : List Side). slice_get l k) sides ∙ get_set_other w.sides j (with_client side took.client) k
            (λ e. omega (arith, e, ge)) ∙ was.1,
        was.2,
      );
}
  where
    by_place : (k : ℕ) → k < j + 1 → Spoken (set w.sides j (with_client side took.client)) k
    by_place k lt = elim (cases_lt k j) [
      | inl less ↦ ap (λ o. is_idle (state_at o)) (get_set_other w.sides j (with_client side took.client) k (λ e. omega (arith, e, less))) ∙ is.spoken k less
      | inr more ↦
          let e : k ≡ j = omega (arith, more, lt) in
          ap (λ i. is_idle (state_at (slice_get (set w.sides j (with_client side took.client)) i))) e
          ∙ ap (λ o. is_idle (state_at o)) (get_set_same w.sides j side (with_client side took.client) at) ∙ ap is_idle state
    ]

-- the world before the first act
pub opening_ready : (addr : Addr) (numbers : List ℕ) (plan : List Planned) → IsOpening (length plan) 0 (initial_world addr numbers plan)
opening_ready addr numbers plan = record {
  spoken = λ k lt. absurd (omega (arith, lt));
  idle = λ k ge lt.
      let there = there_is plan k lt in
      (fresh_side there.0, slice_get-map fresh_side plan k ∙ ap (option_map fresh_side) there.1, refl);
}

module _ (m : AppSpec) (served : ℕ → Bool) (n : ℕ) where
  opens_line : (j : ℕ) (w : World) → IsOpening n j w → j < n → Fine (IsOpening n (j + 1)) (plays_line m served w (Opens (suc j)))
  opens_line j w is lt =
      let P : World → Type 0 = IsOpening n (j + 1) in
      let was = is.idle j (omega arith) lt in
      let side = was.0 in
      let took : ClientStep = client_opens side.client in
      let free : named_fault w (Act.Opens (suc j)) ≡ None =
      ap (λ (o : Option Side). if is_idle (state_at o) then None else Some AlreadyOpen) was.1
      ∙ ap (λ st. if is_idle st then None else Some AlreadyOpen) was.2 in
      let sides : (does m served w (Act.Opens (suc j))).sides ≡ set w.sides j (with_client side took.client) =
      ap (λ (o : Option Side). (option_map_or (λ s. client_stepped w (suc j) s (client_opens s.client)) o w).sides) was.1
      ∙ same_sides (with_side w (suc j) (with_client side took.client)) (suc j) took.sent in
      fine_mark P w.mark (runs m served (Act.Opens (suc j) ∷ []) w)
      (subst (λ (o : Option StepFault). Fine (λ v. P (record v { mark = w.mark }))
      (option_map_or Err (option_or o (if nat_lt 65535 (length w.sent + 1) then Some Full else None))
      (Ok (does m served w (Act.Opens (suc j)))) >>= runs m served []))
      (sym free)
      (choose (λ (o : Option StepFault). Fine (λ v. P (record v { mark = w.mark }))
      (option_map_or Err o (Ok (does m served w (Act.Opens (suc j)))) >>= runs m served []))
      (nat_lt 65535 (length w.sent + 1)) (Some Full) None
      (λ e. refl)
      (λ e. opened_one n j w side took was.1 (opens_spoken side.client was.2) is (record (does m served w (Act.Opens (suc j))) { mark = w.mark }) sides)))

  -- the clients open in turn, and more lines follow
  pub opens_fine : (count j place : ℕ) (w : World) (more : List Event) → j + count ≡ n → IsOpening n j w
      → ((at : ℕ) (v : World) → AllSpoken n v → FineLines (plays_from m served at more v))
      → FineLines (plays_from m served place (map (λ k. Opens k) (range_with_len (j + 1) count) ++ more) w)
  opens_fine zero j place w more e is next = next place w (λ k lt. is.spoken k (omega (arith, e, lt)))
  opens_fine (suc count) j place w more e is next =
      let rest = map (λ k. Opens k) (range_with_len (j + 1 + 1) count) ++ more in
      let number : suc j ≡ j + 1 = omega arith in
      subst (λ (i : ℕ). FineLines (plays_from m served place (Opens i ∷ rest) w)) number
      (goes_on_fine (IsOpening n (j + 1)) place (plays_from m served (place + 1) rest) (plays_line m served w (Opens (suc j)))
      (opens_line j w is (omega (arith, e)))
      (λ v ready. opens_fine count (j + 1) (place + 1) v more (omega (arith, e)) ready next))
