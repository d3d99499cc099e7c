-- What a device returns of what its guarded node sends.
use Rattle.std.specs.Prelude.{◌≡◌, ◌++◌, Bool, false, flat_map, List, Option, true, ℕ}
use Rattle.app_events.specs.Prelude.{AppSpec}
use Rattle.app_events.specs.declared.app.App.{Ghosts}
use Rattle.uip_wire.specs.declared.addr.Addr.{Addr}
use Rattle.sip_hash.specs.declared.key.Key.{Key}
use Rattle.uip_slip.specs.Prelude.{slip_text}
use Rattle.uip_node.specs.Prelude.{Node, Reply, AbstractNode, Ran}
use Rattle.serve_loop.specs.Prelude.{IsNode}
use Rattle.guarded_node.specs.Arrivals.{Arrival, guarded_counts, guarded_run, wire_bytes}
use Rattle.guarded_node.specs.declared.guard.Guard.{Guard}
use Rattle.guarded_node.specs.declared.guard.GuardCounts.{GuardCounts}

-- The result of arrivals: the node represents this one, the property holds of what was sent, and the guard has these counts.
pub record TookArrivals {A S : Type 0} (g : Ghosts A S) (m : AppSpec) (own : Addr) (node : Node A S) (made : GuardCounts)
    (P : Addr → List Reply → Type 0) (ran : Ran) (counted : GuardCounts) : Type 0 where
  pub represented : IsNode g m own node ran.node
  pub sent : P own ran.sent
  pub counts : made ≡ counted

-- A guarded node took these arrivals. For any abstract node that it represented, it represents the node after them, and the property holds
-- of what is sent for them. The guard counted what it dropped and gave up, and its rules are unchanged. So is the configuration of the
-- application, such as a site.
pub record SendsOver {A S : Type 0} (g : Ghosts A S) (arrivals : List Arrival) (guard guarded : Guard) (old new : Node A S)
    (P : Addr → List Reply → Type 0) : Type 0 where
  pub kept : g.config new.shared ≡ g.config old.shared
  pub rules : guarded.rules ≡ guard.rules
  pub each : (m : AppSpec) (own : Addr) (n : AbstractNode) → IsNode g m own old n
      → TookArrivals g m own new guarded.counts P (guarded_run guard.rules m g.served arrivals n)
      (guarded_counts guard.rules m g.served arrivals n guard.counts)

-- the bytes sent at one event: a datagram of the wire, or none
abbrev pub datagram_sent : Option Key → Addr → List Reply → List ℕ
datagram_sent key own replies = flat_map (wire_bytes key own) replies

-- the SLIP text of a reply on the wire, and of replies in order
abbrev pub wire_text : Option Key → Addr → Reply → List ℕ
wire_text key own reply = slip_text (wire_bytes key own reply)

abbrev pub text_sent : Option Key → Addr → List Reply → List ℕ
text_sent key own replies = flat_map (wire_text key own) replies

-- Over a datagram link a call returns the datagram sent, and the pending output is unchanged. Over a serial line the encoded datagram is
-- appended to the pending output. A prefix of both is returned, and the rest stays pending.
abbrev pub HandsOut : Bool → Option Key → Addr → List ℕ → List ℕ → List ℕ → List Reply → Type 0
HandsOut true key own before handed left replies = (handed ≡ datagram_sent key own replies) × (left ≡ before)
HandsOut false key own before handed left replies = before ++ text_sent key own replies ≡ handed ++ left
