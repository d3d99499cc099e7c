-- The events of a prefix of the bytes, of which only the last may complete a frame or make a tick.
use Rattle.serve_loop.proofs.Prelude.{◌≡◌, ℕ, ◌+◌, ◌<◌, ◌≤◌, Bool, true, false, List, [], ◌∷◌, ◌++◌, Option, if◌then◌else◌, length, map}
use Rattle.serve_loop.proofs.Prelude.{take, drop, sym, ap, ◌∙◌, append-nil, arith, length-append, subst, length-take-le, take-append-drop}
use Rattle.serve_loop.proofs.Prelude.{take-take, Addr, AppSpec, Byte, Pacer, beat_on, station_event_by, station_events_after, tick_on}
use Rattle.serve_loop.proofs.Prelude.{HasPassed, is_beat, PrefixWritten, Station, AllWritten, HasTaken, MediumSpec, all_decoded}
use Rattle.serve_loop.proofs.EventLaws.{IsSilent, events-bytes, events-run}
use Rattle.serve_loop.proofs.PaceLaws.{rests}
use Rattle.serve_loop.proofs.RunLaws.{broke_by, broke_more, broke_then, wrote_by, wrote_then}

module _ {Set C : Type 0} (spec : Set → MediumSpec C) (fed : Set → List ℕ → Type 0) (pacer : Pacer) (bytes : List ℕ) (due : ℕ)
    (within : due ≤ length bytes) (reaches : 0 < pacer.pace → due ≤ pacer.left + 1) where
  prefix_silent : (k : Set) (pace : ℕ) (before : List ℕ) (n : ℕ) → HasTaken pace before (fed k) pacer → n ≤ due → IsSilent pace (length before) n
  prefix_silent k pace before n h least j some below =
      ap (λ p. is_beat p (length before + j)) (sym h.paced)
      ∙ rests (length before) j pacer.pace some (λ more. let passed = h.passed more in let reach = reaches more in omega arith)

  prefix_events : (k : Set) (own : Addr) (pace : ℕ) (before : List ℕ) (n : ℕ) → HasTaken pace before (fed k) pacer → 0 < n → n ≤ due
      → station_events_after (spec k) own pace before (map Byte (take n bytes)) ≡ map (station_event_by own)
      (all_decoded (spec k) before (take n bytes)) ++ beat_on (spec k) pace (length before + n)
  prefix_events k own pace before n h some least =
      let size : length (take n bytes) ≡ n = length-take-le n bytes (omega arith) in
      events-run (spec k) own pace before (take n bytes) (omega (arith, size))
      (subst (λ (k : ℕ). IsSilent pace (length before) k) (sym size) (prefix_silent k pace before n h least))
      ∙ ap (λ j. map (station_event_by own) (all_decoded (spec k) before (take n bytes)) ++ beat_on (spec k) pace (length before + j)) size

  -- all the bytes bring what their prefix brings, and then more
  all_events : (k : Set) (own : Addr) (pace : ℕ) (before : List ℕ) (n : ℕ) → HasTaken pace before (fed k) pacer → 0 < n → n ≤ due
      → station_events_after (spec k) own pace before (map Byte bytes)
      ≡ (map (station_event_by own) (all_decoded (spec k) before (take n bytes)) ++ beat_on (spec k) pace (length before + n))
      ++ station_events_after (spec k) own pace (before ++ take n bytes) (map Byte (drop n bytes))
  all_events k own pace before n h some least =
      ap (λ l. station_events_after (spec k) own pace before (map Byte l)) (sym (take-append-drop n bytes))
      ∙ events-bytes (spec k) own pace before (take n bytes) (drop n bytes)
      ∙ ap (λ l. l ++ station_events_after (spec k) own pace (before ++ take n bytes) (map Byte (drop n bytes)))
      (prefix_events k own pace before n h some least)

  -- whether the last byte makes a tick
  ticks : (k : Set) (pace : ℕ) (before : List ℕ) (n : ℕ) (pass : Bool) → HasTaken pace before (fed k) pacer
      → ((count : ℕ) → HasPassed count pacer → pass ≡ is_beat pacer.pace (count + n)) → is_beat pace (length before + n) ≡ pass
  ticks k pace before n pass h reported = ap (λ p. is_beat p (length before + n)) (sym h.paced) ∙ sym (reported (length before) h.passed)

  module _ (served : ℕ → Bool) (P R : Set → AppSpec → Addr → Station C → Type 0) (a c : Option (List ℕ)) where
    -- the answer to a frame broke off
    pub prefix_broke : ((k : Set) (before : List ℕ) → fed k before
        → (x : ℕ) × (0 < x) × (x ≤ length (take due bytes))
        × ((m : AppSpec) (own : Addr) → PrefixWritten m served (spec k) own
        (map (station_event_by own) (all_decoded (spec k) before (take x (take due bytes)))) (P k m own) (R k m own) a c))
        → (k : Set) (pace : ℕ) (before : List ℕ) → HasTaken pace before (fed k) pacer → (m : AppSpec) (own : Addr)
        → PrefixWritten m served (spec k) own (station_events_after (spec k) own pace before (map Byte bytes)) (P k m own) (R k m own) a c
    prefix_broke broke k pace before h m own =
        let it = broke k before h.taken in
        let n = it.0 in
        let least : n ≤ due = omega (arith, it.2, length-take-le due bytes within) in
        let same : take n (take due bytes) ≡ take n bytes = take-take n due bytes least in
        broke_by m served (spec k) own _ _ _ _ _ _ (all_events k own pace before n h it.1 least)
        (broke_more m served (spec k) own _ (station_events_after (spec k) own pace (before ++ take n bytes) (map Byte (drop n bytes))) _ _ _ _
        (broke_more m served (spec k) own _ (beat_on (spec k) pace (length before + n)) _ _ _ _
        (subst (λ (l : List ℕ). PrefixWritten m served (spec k) own (map (station_event_by own) (all_decoded (spec k) before l)) (P k m own)
        (R k m own) a c) same (it.3 m own))))

  module _ (served : ℕ → Bool) (P Q : Set → AppSpec → Addr → Station C → Type 0) (a b : Option (List ℕ)) where
    abbrev pub FrameWrote : ℕ → Type 0
    FrameWrote n = (k : Set) (before : List ℕ) → fed k before → (m : AppSpec) (own : Addr)
        → AllWritten m served (spec k) own (map (station_event_by own) (all_decoded (spec k) before (take n (take due bytes)))) (P k m own) (Q k m own) a b

    frame_wrote : (n : ℕ) → n ≤ due → FrameWrote n → (k : Set) (before : List ℕ) → fed k before → (m : AppSpec) (own : Addr)
        → AllWritten m served (spec k) own (map (station_event_by own) (all_decoded (spec k) before (take n bytes))) (P k m own) (Q k m own) a b
    frame_wrote n least wrote k before took m own =
        subst (λ (l : List ℕ). AllWritten m served (spec k) own (map (station_event_by own) (all_decoded (spec k) before l)) (P k m own) (Q k m own) a b)
        (take-take n due bytes least) (wrote k before took m own)

    -- the last byte makes none
    pub rest_wrote : (n : ℕ) (pass : Bool) → 0 < n → n ≤ due → pass ≡ false → ((count : ℕ) → HasPassed count pacer → pass ≡ is_beat pacer.pace (count + n))
        → FrameWrote n
        → (k : Set) (pace : ℕ) (before : List ℕ) → HasTaken pace before (fed k) pacer → (m : AppSpec) (own : Addr)
        → AllWritten m served (spec k) own (station_events_after (spec k) own pace before (map Byte (take n bytes))) (P k m own) (Q k m own) a b
    rest_wrote n pass some least is reported wrote k pace before h m own =
        let off : beat_on (spec k) pace (length before + n) ≡ [] = ap (λ v. if v then tick_on (spec k) else []) (ticks k pace before n pass h reported ∙ is) in
        let frame = map (station_event_by own) (all_decoded (spec k) before (take n bytes)) in
        wrote_by m served (spec k) own _ _ _ _ _ _ (prefix_events k own pace before n h some least ∙ ap (λ l. frame ++ l) off ∙ append-nil frame)
        (frame_wrote n least wrote k before h.taken m own)

  module _ (served : ℕ → Bool) (P Q R : Set → AppSpec → Addr → Station C → Type 0) (a b c : Option (List ℕ)) where
    pub tick_broke : (n : ℕ) (pass : Bool) → 0 < n → n ≤ due → pass ≡ true → ((count : ℕ) → HasPassed count pacer → pass ≡ is_beat pacer.pace (count + n))
        → FrameWrote served P Q a b n → ((k : Set) (m : AppSpec) (own : Addr) → PrefixWritten m served (spec k) own (tick_on (spec k))
        (Q k m own) (R k m own) b c)
        → (k : Set) (pace : ℕ) (before : List ℕ) → HasTaken pace before (fed k) pacer → (m : AppSpec) (own : Addr)
        → PrefixWritten m served (spec k) own (station_events_after (spec k) own pace before (map Byte bytes)) (P k m own) (R k m own) a c
    tick_broke n pass some least is reported wrote broke k pace before h m own =
        let on : beat_on (spec k) pace (length before + n) ≡ tick_on (spec k) = ap (λ v. if v then tick_on (spec k) else [])
        (ticks k pace before n pass h reported ∙ is) in
        broke_by m served (spec k) own _ _ _ _ _ _ (all_events k own pace before n h some least)
        (broke_more m served (spec k) own _ (station_events_after (spec k) own pace (before ++ take n bytes) (map Byte (drop n bytes))) _ _ _ _
        (broke_then m served (spec k) own (map (station_event_by own) (all_decoded (spec k) before (take n bytes)))
        (beat_on (spec k) pace (length before + n)) _ (Q k m own) _ _ b _
        (frame_wrote served P Q a b n least wrote k before h.taken m own)
        (broke_by m served (spec k) own _ _ _ _ _ _ on (broke k m own))))

    pub tick_wrote : (n : ℕ) (pass : Bool) → 0 < n → n ≤ due → pass ≡ true → ((count : ℕ) → HasPassed count pacer → pass ≡ is_beat pacer.pace (count + n))
        → FrameWrote served P Q a b n → ((k : Set) (m : AppSpec) (own : Addr) → AllWritten m served (spec k) own (tick_on (spec k)) (Q k m own) (R k m own) b c)
        → (k : Set) (pace : ℕ) (before : List ℕ) → HasTaken pace before (fed k) pacer → (m : AppSpec) (own : Addr)
        → AllWritten m served (spec k) own (station_events_after (spec k) own pace before (map Byte (take n bytes))) (P k m own) (R k m own) a c
    tick_wrote n pass some least is reported wrote more k pace before h m own =
        let on : beat_on (spec k) pace (length before + n) ≡ tick_on (spec k) = ap (λ v. if v then tick_on (spec k) else [])
        (ticks k pace before n pass h reported ∙ is) in
        wrote_by m served (spec k) own _ _ _ _ _ _ (prefix_events k own pace before n h some least)
        (wrote_then m served (spec k) own (map (station_event_by own) (all_decoded (spec k) before (take n bytes)))
        (beat_on (spec k) pace (length before + n)) _ (Q k m own) _ _ b _
        (frame_wrote served P Q a b n least wrote k before h.taken m own)
        (wrote_by m served (spec k) own _ _ _ _ _ _ on (more k m own)))

  pub prefix_taken : (fed' : Set → List ℕ → Type 0) (pacer' : Pacer) (n : ℕ) → n ≤ due
      → ((k : Set) (before : List ℕ) → fed k before → fed' k (before ++ take n (take due bytes)))
      → pacer'.pace ≡ pacer.pace → ((count : ℕ) → HasPassed count pacer → HasPassed (count + n) pacer')
      → (k : Set) (pace : ℕ) (before : List ℕ) → HasTaken pace before (fed k) pacer → HasTaken pace (before ++ take n bytes) (fed' k) pacer'
  prefix_taken fed' pacer' n least on paced passed k pace before h =
      let size : length before + n ≡ length (before ++ take n bytes) =
      omega (arith, length-append before (take n bytes), length-take-le n bytes (omega arith)) in
      record {
        taken = subst (λ (l : List ℕ). fed' k (before ++ l)) (take-take n due bytes least) (on k before h.taken);
        paced = paced ∙ h.paced;
        passed = subst (λ (k : ℕ). HasPassed k pacer') size (passed (length before) h.passed);
      }

pub all_in_prefix : (bytes prefix rest : List ℕ) → bytes ≡ prefix ++ rest → length rest ≡ 0 → bytes ≡ prefix
all_in_prefix bytes prefix [] pieces none = pieces ∙ append-nil prefix
all_in_prefix bytes prefix (x ∷ rest) pieces none = absurd (omega arith)

-- bytes after others
module _ {Set C : Type 0} (spec : Set → MediumSpec C) (served : ℕ → Bool) (fed fed' : Set → List ℕ → Type 0) (pacer pacer' : Pacer) (prefix : List ℕ)
    (taken : (k : Set) (pace : ℕ) (before : List ℕ) → HasTaken pace before (fed k) pacer → HasTaken pace (before ++ prefix) (fed' k) pacer')
    (P Q R : Set → AppSpec → Addr → Station C → Type 0) (a b c : Option (List ℕ))
    (wrote : (k : Set) (pace : ℕ) (before : List ℕ) → HasTaken pace before (fed k) pacer → (m : AppSpec) (own : Addr)
    → AllWritten m served (spec k) own (station_events_after (spec k) own pace before (map Byte prefix)) (P k m own) (Q k m own) a b) where
  pub after_broke : (bytes rest : List ℕ) → bytes ≡ prefix ++ rest
      → ((k : Set) (pace : ℕ) (before : List ℕ) → HasTaken pace before (fed' k) pacer' → (m : AppSpec) (own : Addr)
      → PrefixWritten m served (spec k) own (station_events_after (spec k) own pace before (map Byte rest)) (Q k m own) (R k m own) b c)
      → (k : Set) (pace : ℕ) (before : List ℕ) → HasTaken pace before (fed k) pacer → (m : AppSpec) (own : Addr)
      → PrefixWritten m served (spec k) own (station_events_after (spec k) own pace before (map Byte bytes)) (P k m own) (R k m own) a c
  after_broke bytes rest pieces broke k pace before h m own =
      broke_by m served (spec k) own _ _ _ _ _ _ (ap (λ l. station_events_after (spec k) own pace before (map Byte l)) pieces
      ∙ events-bytes (spec k) own pace before prefix rest)
      (broke_then m served (spec k) own _ _ _ (Q k m own) _ _ b _ (wrote k pace before h m own) (broke k pace (before ++ prefix) (taken k pace before h) m own))

  pub after_wrote : (more : List ℕ)
      → ((k : Set) (pace : ℕ) (before : List ℕ) → HasTaken pace before (fed' k) pacer' → (m : AppSpec) (own : Addr)
      → AllWritten m served (spec k) own (station_events_after (spec k) own pace before (map Byte more)) (Q k m own) (R k m own) b c)
      → (k : Set) (pace : ℕ) (before : List ℕ) → HasTaken pace before (fed k) pacer → (m : AppSpec) (own : Addr)
      → AllWritten m served (spec k) own (station_events_after (spec k) own pace before (map Byte (prefix ++ more))) (P k m own) (R k m own) a c
  after_wrote more on k pace before h m own =
      wrote_by m served (spec k) own _ _ _ _ _ _ (events-bytes (spec k) own pace before prefix more)
      (wrote_then m served (spec k) own _ _ _ (Q k m own) _ _ b _ (wrote k pace before h m own) (on k pace (before ++ prefix) (taken k pace before h) m own))
