-- The events of items after others, and of bytes of which only the last may make a tick.
use Rattle.serve_loop.proofs.Prelude.{◌≡◌, ℕ, ◌+◌, ◌<◌, false, List, [], ◌∷◌, ◌++◌, if◌then◌else◌, length, map, sym, ap, ◌∙◌, append-nil}
use Rattle.serve_loop.proofs.Prelude.{append_assoc, arith, length-append, subst, map-append, Addr, Item, Byte, Quiet, beat_on}
use Rattle.serve_loop.proofs.Prelude.{station_event_by, station_events_after, tick_on, is_beat, MediumSpec, all_decoded, bytes_among}
use Rattle.serve_loop.proofs.Prelude.{bytes_among-map}

-- no byte makes a tick, but maybe the last
abbrev pub IsSilent : ℕ → ℕ → ℕ → Type 0
IsSilent pace before count = (k : ℕ) → 0 < k → k < count → is_beat pace (before + k) ≡ false

silent_rest : (pace before count more : ℕ) → more ≡ count + 1 → IsSilent pace before more → IsSilent pace (before + 1) count
silent_rest pace before count more size silent k some within =
    ap (λ n. is_beat pace n) (omega arith) ∙ silent (k + 1) (omega arith) (omega arith)

module _ {C : Type 0} (w : MediumSpec C) (own : Addr) where
  -- the items of further ones follow
  pub events-then : (pace : ℕ) (before : List ℕ) (xs ys : List Item)
      → station_events_after w own pace before (xs ++ ys) ≡ station_events_after w own pace before xs ++ station_events_after w own pace
      (before ++ bytes_among xs) ys
  events-then pace before [] ys = ap (λ l. station_events_after w own pace l ys) (sym (append-nil before))
  events-then pace before (Byte b ∷ xs) ys =
      let frame = map (station_event_by own) (w.decodes before b) in
      let more = beat_on w pace (length before + 1) in
      let behind = before ++ b ∷ [] in
      ap (λ l. frame ++ more ++ l) (events-then pace behind xs ys)
      ∙ ap (λ l. frame ++ more ++ (station_events_after w own pace behind xs ++ station_events_after w own pace l ys))
      (append_assoc before (b ∷ []) (bytes_among xs))
      ∙ sym (append_assoc (frame ++ more) (station_events_after w own pace behind xs) (station_events_after w own pace (before ++ b ∷ bytes_among xs) ys))
  events-then pace before (Quiet ∷ xs) ys =
      ap (λ l. tick_on w ++ l) (events-then pace before xs ys)
      ∙ sym (append_assoc (tick_on w) (station_events_after w own pace before xs) (station_events_after w own pace (before ++ bytes_among xs) ys))

  -- bytes and then others
  pub events-bytes : (pace : ℕ) (before xs ys : List ℕ)
      → station_events_after w own pace before (map Byte (xs ++ ys)) ≡ station_events_after w own pace before (map Byte xs)
      ++ station_events_after w own pace (before ++ xs) (map Byte ys)
  events-bytes pace before xs ys =
      ap (λ l. station_events_after w own pace before l) (map-append Byte xs ys)
      ∙ events-then pace before (map Byte xs) (map Byte ys)
      ∙ ap (λ l. station_events_after w own pace before (map Byte xs) ++ station_events_after w own pace (before ++ l) (map Byte ys)) (bytes_among-map xs)

  silent_first : (pace before count : ℕ) → 1 < count → IsSilent pace before count → beat_on w pace (before + 1) ≡ []
  silent_first pace before count more silent = ap (λ b. if b then tick_on w else []) (silent 1 (omega arith) more)

  -- such bytes do what they bring, and then the tick that the last one makes
  pub events-run : (pace : ℕ) (before bytes : List ℕ) → 0 < length bytes → IsSilent pace (length before) (length bytes)
      → station_events_after w own pace before (map Byte bytes) ≡ map (station_event_by own) (all_decoded w before bytes) ++ beat_on w pace
      (length before + length bytes)
  events-run pace before [] some silent = absurd (omega arith)
  events-run pace before (b ∷ []) some silent =
      append-nil (map (station_event_by own) (w.decodes before b) ++ beat_on w pace (length before + 1))
      ∙ ap (λ l. map (station_event_by own) l ++ beat_on w pace (length before + 1)) (sym (append-nil (w.decodes before b)))
  events-run pace before (b ∷ c ∷ bytes) some silent =
      let behind = before ++ b ∷ [] in
      let rest = c ∷ bytes in
      let this = w.decodes before b in
      let size : length behind ≡ length before + 1 = length-append before (b ∷ []) in
      let quiet : IsSilent pace (length behind) (length rest) =
      subst (λ (n : ℕ). IsSilent pace n (length rest)) (sym size) (silent_rest pace (length before) (length rest) (length (b ∷ rest)) (omega arith) silent) in
      ap (λ l. (map (station_event_by own) this ++ l) ++ station_events_after w own pace behind (map Byte rest))
      (silent_first pace (length before) (length (b ∷ rest)) (omega arith) silent)
      ∙ ap (λ l. l ++ station_events_after w own pace behind (map Byte rest)) (append-nil (map (station_event_by own) this))
      ∙ ap (λ l. map (station_event_by own) this ++ l) (events-run pace behind (c ∷ bytes) (omega arith) quiet)
      ∙ ap (λ n. map (station_event_by own) this ++ (map (station_event_by own) (all_decoded w behind rest) ++ beat_on w pace n)) (omega (arith, size))
      ∙ sym (append_assoc (map (station_event_by own) this) (map (station_event_by own) (all_decoded w behind rest))
      (beat_on w pace (length before + length (b ∷ rest))))
      ∙ ap (λ l. l ++ beat_on w pace (length before + length (b ∷ rest))) (sym (map-append (station_event_by own) this (all_decoded w behind rest)))
