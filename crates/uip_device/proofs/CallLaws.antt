-- What calls bring to a guarded node, for each cut of the bytes among them.
use Rattle.uip_device.proofs.Prelude.{◌≡◌, ℕ, ◌+◌, Bool, true, false, List, [], ◌∷◌, ◌++◌, if◌then◌else◌, length, map, refl, sym, ap, ◌∙◌}
use Rattle.uip_device.proofs.Prelude.{append-nil, append_assoc, arith, length-append, subst, flat_map, None, Some, ⊤, Addr, Item, Byte}
use Rattle.uip_device.proofs.Prelude.{Quiet, AppSpec, completed, AbstractNode, Event, Reply, run, step, is_beat, Arrival, Due, Received}
use Rattle.uip_device.proofs.Prelude.{Rules, arrival_of, arrivals_after, arrivals_by, arrivals_of_calls, events_at, guarded_events}
use Rattle.uip_device.proofs.Prelude.{guarded_run, joined, tick_arrivals, text_sent, wire_text, Call, Calls, CallsForDatagram, DoesNothing}
use Rattle.uip_device.proofs.Prelude.{Drains, Feeds, Inputs, byte_calls, bytes_of_call, calls_after, is_by_datagram, tick_calls, Bring}
use Rattle.uip_device.proofs.Prelude.{Makes, Move, Writing, line_sent}
use Rattle.guarded_node.proofs.Taken.{run_then}

-- what is due at a pace
abbrev beat : ℕ → ℕ → List Arrival
beat pace number = if is_beat pace number then tick_arrivals else []

-- what single bytes bring, and then other calls
bytes_arrivals : (before bytes : List ℕ) (calls : List Call)
    → arrivals_of_calls before (map (λ b. Feeds (b ∷ [])) bytes ++ calls) ≡ arrivals_after 0 before (map Byte bytes) ++ arrivals_of_calls
    (before ++ bytes) calls
bytes_arrivals before [] calls = ap (λ l. arrivals_of_calls l calls) (sym (append-nil before))
bytes_arrivals before (b ∷ bytes) calls =
    let behind = before ++ b ∷ [] in
    let this = map arrival_of (completed before b) ++ beat 0 (length before + 1) in
    let rest = arrivals_after 0 behind (map Byte bytes) in
    ap (λ l. l ++ arrivals_of_calls behind (map (λ c. Feeds (c ∷ [])) bytes ++ calls)) (append-nil this)
    ∙ ap (λ l. this ++ l) (bytes_arrivals behind bytes calls)
    ∙ ap (λ l. this ++ (rest ++ arrivals_of_calls l calls)) (append_assoc before (b ∷ []) bytes)
    ∙ sym (append_assoc this rest (arrivals_of_calls (before ++ b ∷ bytes) calls))

-- however the bytes are cut among the calls, they bring the same
pub cut_arrivals : (before : List ℕ) (calls : List Call) → arrivals_of_calls before (flat_map byte_calls calls) ≡ arrivals_of_calls before calls
cut_arrivals before [] = refl
cut_arrivals before (Feeds bytes ∷ calls) =
    bytes_arrivals before bytes (flat_map byte_calls calls) ∙ ap (λ l. arrivals_after 0 before (map Byte bytes) ++ l) (cut_arrivals (before ++ bytes) calls)
cut_arrivals before (Calls slot ∷ calls) = ap (λ l. Due slot ∷ l) (cut_arrivals (before ++ []) calls)
cut_arrivals before (Drains ∷ calls) =
    ap (λ l. arrivals_of_calls l (flat_map byte_calls calls)) (sym (append-nil before)) ∙ cut_arrivals (before ++ []) calls
cut_arrivals before (Inputs datagram ∷ calls) = ap (λ l. Received datagram ∷ l) (cut_arrivals (before ++ []) calls)
cut_arrivals before (CallsForDatagram slot ∷ calls) = ap (λ l. Due slot ∷ l) (cut_arrivals (before ++ []) calls)
cut_arrivals before (DoesNothing ∷ calls) =
    ap (λ l. arrivals_of_calls l (flat_map byte_calls calls)) (sym (append-nil before)) ∙ cut_arrivals (before ++ []) calls

slots_arrivals : (before slots : List ℕ) (calls : List Call) → arrivals_of_calls before (map Calls slots ++ calls) ≡ map Due slots
    ++ arrivals_of_calls before calls
slots_arrivals before [] calls = refl
slots_arrivals before (slot ∷ slots) calls =
    ap (λ l. Due slot ∷ arrivals_of_calls l (map Calls slots ++ calls)) (append-nil before) ∙ ap (λ l. Due slot ∷ l) (slots_arrivals before slots calls)

ticks_arrivals : (before : List ℕ) (calls : List Call) → arrivals_of_calls before (tick_calls ++ calls) ≡ tick_arrivals ++ arrivals_of_calls before calls
ticks_arrivals before calls = slots_arrivals before (0 ∷ 1 ∷ 2 ∷ 3 ∷ 4 ∷ 5 ∷ 6 ∷ 7 ∷ 8 ∷ 9 ∷ []) calls

beat_arrivals : (before : List ℕ) (v : Bool) (calls : List Call)
    → arrivals_of_calls before ((if v then tick_calls else []) ++ calls) ≡ (if v then tick_arrivals else []) ++ arrivals_of_calls before calls
beat_arrivals before true calls = ticks_arrivals before calls
beat_arrivals before false calls = refl

-- the calls for the items of a line bring what they bring
pub item_arrivals : (pace count : ℕ) (before : List ℕ) (items : List Item) → count ≡ length before
    → arrivals_of_calls before (calls_after pace count items) ≡ arrivals_after pace before items
item_arrivals pace count before [] same = refl
item_arrivals pace count before (Byte b ∷ items) same =
    let behind = before ++ b ∷ [] in
    let reported = map arrival_of (completed before b) in
    let later = calls_after pace (count + 1) items in
    let size : count + 1 ≡ length behind = omega (arith, same, length-append before (b ∷ [])) in
    ap (λ l. l ++ arrivals_of_calls behind ((if is_beat pace (count + 1) then tick_calls else []) ++ later)) (append-nil (reported ++ []) ∙ append-nil reported)
    ∙ ap (λ l. reported ++ l) (beat_arrivals behind (is_beat pace (count + 1)) later)
    ∙ ap (λ l. reported ++ ((if is_beat pace (count + 1) then tick_arrivals else []) ++ l)) (item_arrivals pace (count + 1) behind items size)
    ∙ ap (λ n. reported ++ (beat pace (n + 1) ++ arrivals_after pace behind items)) same
    ∙ sym (append_assoc reported (beat pace (length before + 1)) (arrivals_after pace behind items))
item_arrivals pace count before (Quiet ∷ items) same =
    ticks_arrivals before (calls_after pace count items) ∙ ap (λ l. tick_arrivals ++ l) (item_arrivals pace count before items same)

line_brought : (pace : ℕ) (items : List Item) (moves : List Move) (bring : Bring pace items moves) → arrivals_of_calls [] bring.calls
    ≡ arrivals_after pace [] items
line_brought pace items moves bring = sym (cut_arrivals [] bring.calls) ∙ ap (λ l. arrivals_of_calls [] l) bring.cut ∙ item_arrivals pace 0 [] items refl

-- no call is over a link that carries datagrams
abbrev pub AllOnLine : List Call → Type 0
AllOnLine [] = ⊤
AllOnLine (call ∷ calls) = (is_by_datagram call ≡ false) × AllOnLine calls

ticks_on_line : (slots : List ℕ) (calls : List Call) → AllOnLine calls → AllOnLine (map Calls slots ++ calls)
ticks_on_line [] calls on = on
ticks_on_line (slot ∷ slots) calls on = (refl, ticks_on_line slots calls on)

beat_on_line : (v : Bool) (calls : List Call) → AllOnLine calls → AllOnLine ((if v then tick_calls else []) ++ calls)
beat_on_line true calls on = ticks_on_line (0 ∷ 1 ∷ 2 ∷ 3 ∷ 4 ∷ 5 ∷ 6 ∷ 7 ∷ 8 ∷ 9 ∷ []) calls on
beat_on_line false calls on = on

items_on_line : (pace count : ℕ) (items : List Item) → AllOnLine (calls_after pace count items)
items_on_line pace count [] = tt
items_on_line pace count (Byte b ∷ items) =
    (refl, beat_on_line (is_beat pace (count + 1)) (calls_after pace (count + 1) items) (items_on_line pace (count + 1) items))
items_on_line pace count (Quiet ∷ items) =
    ticks_on_line (0 ∷ 1 ∷ 2 ∷ 3 ∷ 4 ∷ 5 ∷ 6 ∷ 7 ∷ 8 ∷ 9 ∷ []) (calls_after pace count items) (items_on_line pace count items)

bytes_off : (bytes : List ℕ) (calls : List Call) → AllOnLine (map (λ b. Feeds (b ∷ [])) bytes ++ calls) → AllOnLine calls
bytes_off [] calls on = on
bytes_off (b ∷ bytes) calls on = bytes_off bytes calls on.1

cut_on_line : (calls : List Call) → AllOnLine (flat_map byte_calls calls) → AllOnLine calls
cut_on_line [] on = tt
cut_on_line (Feeds bytes ∷ calls) on = (refl, cut_on_line calls (bytes_off bytes (flat_map byte_calls calls) on))
cut_on_line (Calls slot ∷ calls) on = (refl, cut_on_line calls on.1)
cut_on_line (Drains ∷ calls) on = (refl, cut_on_line calls on)
cut_on_line (Inputs datagram ∷ calls) on = absurd (cc on.0)
cut_on_line (CallsForDatagram slot ∷ calls) on = absurd (cc on.0)
cut_on_line (DoesNothing ∷ calls) on = (refl, cut_on_line calls on)

-- what is sent over events, and over others after them
sent_joined : (f : Reply → List ℕ) (m : AppSpec) (served : ℕ → Bool) (xs ys : List Event) (n : AbstractNode)
    → flat_map f (run m served (xs ++ ys) n).sent ≡ flat_map f (run m served xs n).sent ++ flat_map f (run m served ys (run m served xs n).node).sent
sent_joined f m served [] ys n = refl
sent_joined f m served (x ∷ xs) ys n = elim (step m served n x).sent as (λ o. flat_map f (joined o (run m served (xs ++ ys) (step m served n x).node).sent)
    ≡ flat_map f (joined o (run m served xs (step m served n x).node).sent) ++ flat_map f
    (run m served ys (run m served xs (step m served n x).node).node).sent) [
      | None ↦ sent_joined f m served xs ys (step m served n x).node
      | Some reply ↦
          ap (λ l. f reply ++ l) (sent_joined f m served xs ys (step m served n x).node)
          ∙ sym (append_assoc (f reply) (flat_map f (run m served xs (step m served n x).node).sent)
          (flat_map f (run m served ys (run m served xs (step m served n x).node).node).sent))
    ]

module _ (rules : Rules) (m : AppSpec) (served : ℕ → Bool) where
  -- the events for what comes first, and then for the rest
  events_then : (xs ys : List Arrival) (n : AbstractNode)
      → guarded_events rules m served (xs ++ ys) n ≡ guarded_events rules m served xs n ++ guarded_events rules m served ys
      (guarded_run rules m served xs n).node
  events_then [] ys n = refl
  events_then (x ∷ xs) ys n =
      let first : List Event = events_at rules served n x in
      let mid : AbstractNode = (run m served first n).node in
      ap (λ l. first ++ l) (events_then xs ys mid)
      ∙ sym (append_assoc first (guarded_events rules m served xs mid) (guarded_events rules m served ys (guarded_run rules m served xs mid).node))
      ∙ ap (λ (k : AbstractNode). (first ++ guarded_events rules m served xs mid) ++ guarded_events rules m served ys k)
      (sym (run_then m served first (guarded_events rules m served xs mid) n))

  pub text_then : (own : Addr) (xs ys : List Arrival) (n : AbstractNode)
      → text_sent rules.key own (guarded_run rules m served (xs ++ ys) n).sent
      ≡ text_sent rules.key own (guarded_run rules m served xs n).sent ++ text_sent rules.key own
      (guarded_run rules m served ys (guarded_run rules m served xs n).node).sent
  text_then own xs ys n =
      ap (λ (l : List Event). text_sent rules.key own (run m served l n).sent) (events_then xs ys n)
      ∙ sent_joined (wire_text rules.key own) m served (guarded_events rules m served xs n)
      (guarded_events rules m served ys (guarded_run rules m served xs n).node) n

-- what is sent at such calls is what is sent over all that they bring
sent_on_line : (m : AppSpec) (served : ℕ → Bool) (gives : Writing) (rules : Rules) (own : Addr) (before : List ℕ) (calls : List Call)
    (n : AbstractNode) → AllOnLine calls
    → line_sent m served gives rules own before (map Makes calls) n ≡ text_sent rules.key own
    (guarded_run rules m served (arrivals_of_calls before calls) n).sent
sent_on_line m served gives rules own before [] n on = refl
sent_on_line m served gives rules own before (call ∷ calls) n on =
    let arrivals = arrivals_by before call in
    let behind = before ++ bytes_of_call call in
    let here : AbstractNode = (guarded_run rules m served arrivals n).node in
    let text = text_sent rules.key own (guarded_run rules m served arrivals n).sent in
    ap (λ v. (if v then [] else text) ++ line_sent m served gives rules own behind (map Makes calls) here) on.0
    ∙ ap (λ l. text ++ l) (sent_on_line m served gives rules own behind calls here on.1)
    ∙ sym (text_then rules m served own arrivals (arrivals_of_calls behind calls) n)

-- and so it is what is sent over what the items of a line bring
pub line_text : (m : AppSpec) (served : ℕ → Bool) (gives : Writing) (rules : Rules) (own : Addr) (pace : ℕ) (items : List Item)
    (moves : List Move) (n : AbstractNode) → Bring pace items moves
    → line_sent m served gives rules own [] moves n ≡ text_sent rules.key own (guarded_run rules m served (arrivals_after pace [] items) n).sent
line_text m served gives rules own pace items moves n bring =
    ap (λ (l : List Move). line_sent m served gives rules own [] l n) bring.made
    ∙ sent_on_line m served gives rules own [] bring.calls n
    (cut_on_line bring.calls (subst (λ (l : List Call). AllOnLine l) (sym bring.cut) (items_on_line pace 0 items)))
    ∙ ap (λ (l : List Arrival). text_sent rules.key own (guarded_run rules m served l n).sent) (line_brought pace items moves bring)
