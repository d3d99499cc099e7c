-- What a program wrote to a connection, by its calls.
use Rattle.std.specs.Prelude.{ℕ, Bool, true, false, if◌then◌else◌, List, [], ◌∷◌, ◌++◌}
use Rattle.app_events.specs.declared.state.State.{State}
use Rattle.app_events.specs.declared.state.State.TheVariants.{SynRcvd}
use Rattle.uip_node.specs.Prelude.{AbstractNode, connection_in}

-- The connection was accepted and is not established.
abbrev pub is_accepted : State → Bool
is_accepted SynRcvd = true
is_accepted _ = false

-- Calls of a program lead from state to state, and each state has a node. `text_in slot call` is the text that a call writes to the
-- connection in a slot.
module _ {Call S : Type 0} (after : Call → S → S) (node_of : S → AbstractNode) (text_in : ℕ → Call → List ℕ) where
  -- The text that these calls wrote to the connection in a slot since it was accepted there, if it was `before` at first.
  abbrev pub text_written : ℕ → List Call → S → List ℕ → List ℕ
  text_written slot [] s before = before
  text_written slot (call ∷ calls) s before =
      text_written slot calls (after call s)
      (if is_accepted (connection_in slot (node_of (after call s))).state then [] else before ++ text_in slot call)
