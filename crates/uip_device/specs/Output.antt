-- What a guarded node sends over the moves of its device.
use Rattle.std.specs.Prelude.{ℕ, Bool, List, [], ◌∷◌, ◌++◌, if◌then◌else◌}
use Rattle.app_events.specs.Prelude.{AppSpec}
use Rattle.uip_node.specs.Prelude.{AbstractNode}
use Rattle.uip_wire.specs.declared.addr.Addr.{Addr}
use Rattle.guarded_node.specs.Counts.{fresh_guard}
use Rattle.guarded_node.specs.declared.guard.Guard.{Guard}
use Rattle.guarded_node.specs.declared.guard.GuardCounts.{GuardCounts}
use Rattle.guarded_node.specs.declared.guard.Rules.{Rules}
use Rattle.uip_device.specs.Moves.{Move, Writing, bytes_of_move, counts_of_move, goes_by_datagram, run_move}
use Rattle.uip_device.specs.Sending.{datagram_sent, text_sent}

-- the encoded datagrams of the calls over the serial line, after the bytes fed before
abbrev pub line_sent : AppSpec → (ℕ → Bool) → Writing → Rules → Addr → List ℕ → List Move → AbstractNode → List ℕ
line_sent m served gives rules own before [] n = []
line_sent m served gives rules own before (move ∷ moves) n =
    (if goes_by_datagram move then [] else text_sent rules.key own (run_move m served gives rules before move n).sent)
    ++ line_sent m served gives rules own (before ++ bytes_of_move move) moves (run_move m served gives rules before move n).node

-- the datagram sent at each call over a datagram link; no bytes if none is sent
abbrev pub datagrams_sent : AppSpec → (ℕ → Bool) → Writing → Rules → Addr → List ℕ → List Move → AbstractNode → List (List ℕ)
datagrams_sent m served gives rules own before [] n = []
datagrams_sent m served gives rules own before (move ∷ moves) n =
    (if goes_by_datagram move then datagram_sent rules.key own (run_move m served gives rules before move n).sent ∷ [] else [])
    ++ datagrams_sent m served gives rules own (before ++ bytes_of_move move) moves (run_move m served gives rules before move n).node

-- the node after the moves
abbrev pub node_reached : AppSpec → (ℕ → Bool) → Writing → Rules → List ℕ → List Move → AbstractNode → AbstractNode
node_reached m served gives rules before [] n = n
node_reached m served gives rules before (move ∷ moves) n =
    node_reached m served gives rules (before ++ bytes_of_move move) moves (run_move m served gives rules before move n).node

-- the counts of its guard after them
abbrev pub counts_reached : AppSpec → (ℕ → Bool) → Writing → Rules → List ℕ → List Move → AbstractNode → GuardCounts → GuardCounts
counts_reached m served gives rules before [] n counts = counts
counts_reached m served gives rules before (move ∷ moves) n counts =
    counts_reached m served gives rules (before ++ bytes_of_move move) moves (run_move m served gives rules before move n).node
    (counts_of_move m served gives rules before move n counts)

-- its guard, which had done nothing before
abbrev pub guard_reached : AppSpec → (ℕ → Bool) → Writing → Rules → List Move → AbstractNode → Guard
guard_reached m served gives rules moves n =
    record { rules = rules; counts = counts_reached m served gives rules [] moves n (fresh_guard rules).counts }
