-- The guarantee for a device, move by move.
use Rattle.std.specs.Prelude.{◌≡◌, ◌≤◌, ◌∷◌, ◌++◌, [], All, Bool, flat_map, length, List, map, Option, ℕ, ⊤}
use Rattle.app_events.specs.Prelude.{AppSpec, IsByte, IsU32, Pages}
use Rattle.uip_wire.specs.declared.addr.Addr.{Addr}
use Rattle.node_laws.specs.Prelude.{ArrivesIn, TraceConforms, at_every_port, TraceEntry, replies_of, IsDecoded}
use Rattle.uip_device.specs.Calls.{Feeds, Inputs}
use Rattle.sip_hash.specs.declared.key.Key.{Key}
use Rattle.uip_node.specs.Prelude.{AbstractNode, Event, initial_node}
use Rattle.guarded_node.specs.Arrivals.{guarded_events}
use Rattle.guarded_node.specs.declared.guard.Rules.{Rules}
use Rattle.uip_device.specs.Moves.{Move, Makes, Gives, Writing, arrivals_of_move, bytes_of_move, goes_by_datagram, run_move, with_value}
use Rattle.uip_device.specs.Devices.{Answered}
use Rattle.uip_device.specs.Sending.{HandsOut}

-- The input of a call is bytes, and a value has at most 32 bytes.
abbrev pub IsOfBytes : Move → Type 0
IsOfBytes (Makes (Feeds bytes)) = All IsByte bytes
IsOfBytes (Makes (Inputs datagram)) = All IsByte datagram
IsOfBytes (Gives number text) = (length text ≤ 32) × All IsByte text
IsOfBytes _ = ⊤

-- Setting a value leaves the counters below 2^32.
abbrev pub KeepsU32 : Writing → Type 0
KeepsU32 gives = (number : ℕ) (text numbers : List ℕ) → IsOfBytes (Gives number text) → All IsU32 numbers
    → All IsU32 (gives number text numbers)

-- A move with its result, the output pending after it, and the trace of the events that it caused.
pub record MoveTrace : Type 0 where
  pub answered : Answered
  pub left : List ℕ
  pub turns : List TraceEntry

-- The trace has the events that the guarded node takes for the move, after the bytes fed before. Over a datagram link the move returns the
-- datagram sent, as it is on the wire. Over a serial line it returns the pending output, then the encoded datagrams, up to what stays
-- pending.
pub record OutputIsSent (key : Option Key) (own : Addr) (left : List ℕ) (events : List Event) (it : MoveTrace) : Type 0 where
  pub over : map (λ t. t.event) it.turns ≡ events
  pub hands : HandsOut (goes_by_datagram it.answered.move) key own left it.answered.handed it.left (replies_of it.turns)

module _ (m : AppSpec) (served : ℕ → Bool) (gives : Writing) (rules : Rules) (own : Addr) where
  -- the events that the guarded node takes for a move, after the bytes fed before
  abbrev pub events_of_move : List ℕ → Move → AbstractNode → List Event
  events_of_move before move n = guarded_events rules m served (arrivals_of_move before move) (with_value gives move n)

  -- This holds for each of these moves in order, from this node on.
  abbrev pub AllHandOutSent : List ℕ → List ℕ → AbstractNode → List MoveTrace → Type 0
  AllHandOutSent before left n [] = ⊤
  AllHandOutSent before left n (it ∷ more) =
      OutputIsSent rules.key own left (events_of_move before it.answered.move n) it
      × AllHandOutSent (before ++ bytes_of_move it.answered.move) it.left
      (run_move m served gives rules before it.answered.move n).node more

-- These are results of moves in order (`all`) and the output pending after each (`lefts`). Each move returns what is sent in a trace of
-- its own, of the events that the guarded node takes. The concatenated traces conform, and the node's own parser, at the address of the
-- peer, gives back each segment. The page of each cooperating peer arrives, over any link that does not lose too much.
pub record CallsConform (m : AppSpec) (pages : Pages) (served : ℕ → Bool) (gives : Writing) (numbers : List ℕ) (rules : Rules) (own : Addr)
    (all : List Answered) (lefts : List (List ℕ)) : Type 0 where
  pub moves : List MoveTrace
  pub answered : map (λ it. it.answered) moves ≡ all
  pub left : map (λ it. it.left) moves ≡ lefts
  pub each : AllHandOutSent m served gives rules own [] [] (initial_node own numbers) moves
  pub keeps : TraceConforms (at_every_port pages) served (flat_map (λ it. it.turns) moves)
  pub read : All (IsDecoded own) (flat_map (λ it. it.turns) moves)
  pub arrives : ArrivesIn m pages (flat_map (λ it. it.turns) moves)
