-- The events that a guarded node takes over moves with bytes are those of a line: datagrams of bytes, the RST of a connection, frames that
-- are too long and calls of slots.
use Rattle.uip_device.proofs.Prelude.{All, ◌≡◌, ℕ, ◌+◌, ◌<◌, Bool, true, List, [], ◌∷◌, ◌++◌, if◌then◌else◌, length, map, refl, ap, ◌∙◌}
use Rattle.uip_device.proofs.Prelude.{inr, arith, All-append, All-cons, All-head, All-nil, All-tail, Addr, AppSpec, IsAddr, IsByte, IsU32}
use Rattle.uip_device.proofs.Prelude.{Byte, Frame, Datagram, Overlong, completed, AbstractNode, Event, Periodic, event_of, initial_node}
use Rattle.uip_device.proofs.Prelude.{run, step, choose, CarriesBytes, is_beat, came_by, slip_brings_bytes, IsOfLine, of_bytes, of_overlong}
use Rattle.uip_device.proofs.Prelude.{of_call, Arrival, Due, Received, Rules, TooLong, arrival_of, arrivals_after, arrivals_by, arriving}
use Rattle.uip_device.proofs.Prelude.{events_at, guarded_events, tick_arrivals, Call, Calls, CallsForDatagram, DoesNothing, Drains, Feeds}
use Rattle.uip_device.proofs.Prelude.{Inputs, IsOfBytes, KeepsU32, Gives, Makes, Move, Writing, bytes_of_move, run_move}
use Rattle.app_events.specs.Prelude.{is_live}
use Rattle.guarded_node.proofs.ArrivingBytes.{arriving_low}
use Rattle.guarded_node.proofs.Resets.{there}
use Rattle.guarded_node.proofs.Taken.{guarded_all}
use Rattle.guarded_node.specs.Arrivals.{BringsBytes}
use Rattle.guarded_node.specs.Guarded.{gives_up, reset_by}
use Rattle.node_laws.proofs.PeerReads.{SoundAll, changed_sound, comes_on_line, live_fits, starts_sound, step_all}
use Rattle.node_laws.proofs.Steps.{LineStep, OfNode, Changes as ChangesNumbers, IsStep, all_happen}
use Rattle.tcp_machine.specs.Prelude.{Connection}
use Rattle.uip_node.proofs.Basics.{wrap_low}
use Rattle.uip_node.proofs.SoundSegments.{IsSoundSegment}
use Rattle.uip_node.specs.Laws.{SendsBytes}
use Rattle.uip_node.specs.Prelude.{connection_in}
use Rattle.uip_node.specs.Steady.{IsSteady}
use Rattle.uip_node.proofs.Addresses.{run_addr}

pub bytes_low : (move : Move) → IsOfBytes move → All IsByte (bytes_of_move move)
bytes_low (Makes (Feeds bytes)) is = is
bytes_low (Makes (Calls slot)) is = All-nil IsByte
bytes_low (Makes Drains) is = All-nil IsByte
bytes_low (Makes (Inputs datagram)) is = All-nil IsByte
bytes_low (Makes (CallsForDatagram slot)) is = All-nil IsByte
bytes_low (Makes DoesNothing) is = All-nil IsByte
bytes_low (Gives number text) is = All-nil IsByte

-- ---- what comes consists of bytes

frames_bring : (frames : List Frame) → All CarriesBytes (map came_by frames) → All BringsBytes (map arrival_of frames)
frames_bring [] h = All-nil BringsBytes
frames_bring (Datagram bytes ∷ frames) h =
    All-cons BringsBytes (Received bytes) (map arrival_of frames) (All-head CarriesBytes (came_by (Datagram bytes)) (map came_by frames) h)
    (frames_bring frames (All-tail CarriesBytes (came_by (Datagram bytes)) (map came_by frames) h))
frames_bring (Overlong ∷ frames) h =
    All-cons BringsBytes TooLong (map arrival_of frames) tt (frames_bring frames (All-tail CarriesBytes (came_by Overlong) (map came_by frames) h))

slots_bring : (slots : List ℕ) → All BringsBytes (map Due slots)
slots_bring [] = All-nil BringsBytes
slots_bring (s ∷ slots) = All-cons BringsBytes (Due s) (map Due slots) tt (slots_bring slots)

bytes_bring : (pace : ℕ) (before bytes : List ℕ) → All IsByte before → All IsByte bytes → All BringsBytes (arrivals_after pace before (map Byte bytes))
bytes_bring pace before [] h are = All-nil BringsBytes
bytes_bring pace before (b ∷ bytes) h are =
    let behind : List ℕ = before ++ b ∷ [] in
    let frame : List Arrival = map arrival_of (completed before b) in
    let due : List Arrival = if is_beat pace (length before + 1) then tick_arrivals else [] in
    All-append BringsBytes (frame ++ due) (arrivals_after pace behind (map Byte bytes))
    (All-append BringsBytes frame due (frames_bring (completed before b) (slip_brings_bytes before b h (All-head IsByte b bytes are)))
    (choose (λ (l : List Arrival). All BringsBytes l) (is_beat pace (length before + 1)) _ _
    (λ e. slots_bring (0 ∷ 1 ∷ 2 ∷ 3 ∷ 4 ∷ 5 ∷ 6 ∷ 7 ∷ 8 ∷ 9 ∷ [])) (λ e. All-nil BringsBytes)))
    (bytes_bring pace behind bytes (All-append IsByte before (b ∷ []) h (All-cons IsByte b [] (All-head IsByte b bytes are)
    (All-nil IsByte))) (All-tail IsByte b bytes are))

pub call_brings : (before : List ℕ) (call : Call) → IsOfBytes (Makes call) → All IsByte before → All BringsBytes (arrivals_by before call)
call_brings before (Feeds bytes) is h = bytes_bring 0 before bytes h is
call_brings before (Calls slot) is h = slots_bring (slot ∷ [])
call_brings before Drains is h = All-nil BringsBytes
call_brings before (Inputs datagram) is h = All-cons BringsBytes (Received datagram) [] is (All-nil BringsBytes)
call_brings before (CallsForDatagram slot) is h = slots_bring (slot ∷ [])
call_brings before DoesNothing is h = All-nil BringsBytes

reset_sound : (c : Connection) → IsSoundSegment (reset_by c)
reset_sound c = record {
  seq = wrap_low (c.irs + 1 + c.taken);
  ack = omega arith;
  flags = omega arith;
  window = omega arith;
  mss = tt;
  short = omega arith;
  alone = inr refl;
  text = All-nil IsByte;
}

-- ---- the events are of a line

module _ (m : AppSpec) (steady : IsSteady m) (sends : SendsBytes m) (served : ℕ → Bool) (own : Addr) (is_own : IsAddr own) where
  abbrev AllOf : List Event → Type 0
  AllOf events = All (IsOfLine own) events

  -- a node at the own address that is sound
  record Stands (n : AbstractNode) : Type 0 where
    addr : n.addr ≡ own
    sound : SoundAll m steady sends n

  stands_after : (events : List Event) (n : AbstractNode) → AllOf events → Stands n → Stands (run m served events n).node
  stands_after events n of st = record { addr = run_addr m served events n ∙ st.addr; sound = sound_after events n of st.sound }
    where
      sound_after : (events : List Event) (n : AbstractNode) → AllOf events → SoundAll m steady sends n → SoundAll m steady sends (run m served events n).node
      sound_after [] n of sound = sound
      sound_after (e ∷ events) n of sound =
          sound_after events (step m served n e).node (All-tail (IsOfLine own) e events of)
          (step_all m steady sends served own is_own n e (All-head (IsOfLine own) e events of) sound).0

  resets_on_line : (n : AbstractNode) → Stands n → (slot : ℕ) → slot < length n.connections → is_live (connection_in slot n).state ≡ true
      → IsOfLine own (gives_up (connection_in slot n))
  resets_on_line n st slot within live =
      let c : Connection = connection_in slot n in
      comes_on_line own c.sockets (reset_by c) is_own (live_fits m steady sends n slot c st.sound (there n slot within) live) (reset_sound c)

  module _ (rules : Rules) where
    arrival_happens : (n : AbstractNode) (arrival : Arrival) → Stands n → BringsBytes arrival → AllOf (events_at rules served n arrival)
    arrival_happens n (Received bytes) st low =
        guarded_all (IsOfLine own) rules served n bytes
        (of_bytes (arriving rules.key bytes) (arriving_low rules.key bytes low) (ap (λ (a : Addr). event_of a (arriving rules.key bytes)) st.addr))
        (resets_on_line n st)
    arrival_happens n TooLong st low = All-cons (IsOfLine own) _ [] (of_overlong refl) (All-nil (IsOfLine own))
    arrival_happens n (Due slot) st low = All-cons (IsOfLine own) (Periodic slot) [] (of_call slot refl) (All-nil (IsOfLine own))

    all_arrive : (arrivals : List Arrival) (n : AbstractNode) → Stands n → All BringsBytes arrivals → AllOf (guarded_events rules m served arrivals n)
    all_arrive [] n st low = All-nil (IsOfLine own)
    all_arrive (arrival ∷ arrivals) n st low =
        let first : List Event = events_at rules served n arrival in
        let of : AllOf first = arrival_happens n arrival st (All-head BringsBytes arrival arrivals low) in
        let mid : AbstractNode = (run m served first n).node in
        All-append (IsOfLine own) first (guarded_events rules m served arrivals mid) of
        (all_arrive arrivals mid (stands_after first n of st) (All-tail BringsBytes arrival arrivals low))

    -- a move is these steps: the events that the node takes for it, or a change of the numbers
    abbrev pub steps_of_move : Writing → List ℕ → Move → AbstractNode → List LineStep
    steps_of_move gives before (Makes call) n = map OfNode (guarded_events rules m served (arrivals_by before call) n)
    steps_of_move gives before (Gives number text) n = ChangesNumbers (gives number text) ∷ []

    abbrev pub steps_of : Writing → List ℕ → List Move → AbstractNode → List LineStep
    steps_of gives before [] n = []
    steps_of gives before (move ∷ moves) n =
        steps_of_move gives before move n ++ steps_of gives (before ++ bytes_of_move move) moves (run_move m served gives rules before move n).node

    record MoveHappens (gives : Writing) (before : List ℕ) (move : Move) (n : AbstractNode) : Type 0 where
      steps : All (IsStep own) (steps_of_move gives before move n)
      after : Stands (run_move m served gives rules before move n).node

    move_happens : (gives : Writing) → KeepsU32 gives → (before : List ℕ) (move : Move) (n : AbstractNode) → IsOfBytes move
        → All IsByte before → Stands n → MoveHappens gives before move n
    move_happens gives words before (Makes call) n is h st =
        let arrivals : List Arrival = arrivals_by before call in
        let of : AllOf (guarded_events rules m served arrivals n) = all_arrive arrivals n st (call_brings before call is h) in
        record { steps = all_happen own (guarded_events rules m served arrivals n) of; after = stands_after (guarded_events rules m served arrivals n) n of st }
    move_happens gives words before (Gives number text) n is h st = record {
      steps = All-cons (IsStep own) (ChangesNumbers (gives number text)) [] (λ numbers are. words number text numbers is are) (All-nil (IsStep own));
      after = record {
        addr = st.addr;
        sound = changed_sound m steady sends n (gives number text)
            (words number text n.numbers is st.sound.fit.numbers) st.sound;
      };
    }

    steps_after : (gives : Writing) → KeepsU32 gives → (before : List ℕ) (moves : List Move) (n : AbstractNode) → All IsByte before
        → All IsOfBytes moves → Stands n
        → All (IsStep own) (steps_of gives before moves n)
    steps_after gives words before [] n h are st = All-nil (IsStep own)
    steps_after gives words before (move ∷ moves) n h are st =
        let is : IsOfBytes move = All-head IsOfBytes move moves are in
        let behind : List ℕ = before ++ bytes_of_move move in
        let first = move_happens gives words before move n is h st in
        let next : AbstractNode = (run_move m served gives rules before move n).node in
        All-append (IsStep own) (steps_of_move gives before move n) (steps_of gives behind moves next) first.steps
        (steps_after gives words behind moves next (All-append IsByte before (bytes_of_move move) h (bytes_low move is))
        (All-tail IsOfBytes move moves are) first.after)

    pub steps_are : (gives : Writing) → KeepsU32 gives → (numbers : List ℕ) → All IsU32 numbers → (moves : List Move) → All IsOfBytes moves
        → All (IsStep own) (steps_of gives [] moves (initial_node own numbers))
    steps_are gives words numbers low moves are =
        steps_after gives words [] moves (initial_node own numbers) (All-nil IsByte) are
        (record { addr = refl; sound = starts_sound m steady sends own numbers low })
