-- The moves of a caller: calls of a device, and values that it sets between them.
use Rattle.std.specs.Prelude.{◌≡◌, [], Bool, false, flat_map, List, map, ℕ}
use Rattle.uip_edge.specs.declared.item.Item.{Item}
use Rattle.uip_node.specs.Prelude.{AbstractNode, Ran}
use Rattle.app_events.specs.Prelude.{AppSpec}
use Rattle.guarded_node.specs.Arrivals.{Arrival, guarded_counts, guarded_run}
use Rattle.guarded_node.specs.declared.guard.GuardCounts.{GuardCounts}
use Rattle.guarded_node.specs.declared.guard.Rules.{Rules}
use Rattle.uip_device.specs.Calls.{Call, arrivals_by, byte_calls, bytes_of_call, calls_after, is_by_datagram}

-- a call, or the value with a number is this text from now on
pub data Move : Type 0 where
  Makes : (call : Call) → Move
  Gives : (number : ℕ) (text : List ℕ) → Move

-- How setting a value changes the counters of an application: its number, its text, and the counters before.
abbrev pub Writing : Type 0
Writing = ℕ → List ℕ → List ℕ → List ℕ

abbrev pub goes_by_datagram : Move → Bool
goes_by_datagram (Makes call) = is_by_datagram call
goes_by_datagram (Gives number text) = false

-- the bytes fed over a serial line, and what a move brings to the node; setting a value brings nothing
abbrev pub bytes_of_move : Move → List ℕ
bytes_of_move (Makes call) = bytes_of_call call
bytes_of_move (Gives number text) = []

abbrev pub arrivals_of_move : List ℕ → Move → List Arrival
arrivals_of_move before (Makes call) = arrivals_by before call
arrivals_of_move before (Gives number text) = []

-- It changes the counters of the application, and nothing else of the node.
abbrev pub with_numbers : (List ℕ → List ℕ) → AbstractNode → AbstractNode
with_numbers change n = record n { numbers = change n.numbers }

abbrev pub with_value : Writing → Move → AbstractNode → AbstractNode
with_value gives (Makes call) n = n
with_value gives (Gives number text) n = with_numbers (gives number text) n

-- a move after the bytes fed before: the run over what it brings, and the counts of the guard
abbrev pub run_move : AppSpec → (ℕ → Bool) → Writing → Rules → List ℕ → Move → AbstractNode → Ran
run_move m served gives rules before move n = guarded_run rules m served (arrivals_of_move before move) (with_value gives move n)

abbrev pub counts_of_move : AppSpec → (ℕ → Bool) → Writing → Rules → List ℕ → Move → AbstractNode → GuardCounts → GuardCounts
counts_of_move m served gives rules before move n counts =
    guarded_counts rules m served (arrivals_of_move before move) (with_value gives move n) counts

-- The moves are calls only. They bring what a line's items bring at a pace, in order, however its bytes are split among the calls.
pub record Bring (pace : ℕ) (items : List Item) (moves : List Move) : Type 0 where
  pub calls : List Call
  pub made : moves ≡ map Makes calls
  pub cut : flat_map byte_calls calls ≡ calls_after pace 0 items
