-- The SLIP texts of what a node sends over a serial line.
use Rattle.std.specs.Prelude.{ℕ, List, [], ◌∷◌, ◌++◌, Option, None, Some}
use Rattle.uip_wire.specs.declared.addr.Addr.{Addr}
use Rattle.uip_slip.specs.Prelude.{slip_text}
use Rattle.uip_node.specs.Prelude.{reply_bytes, Reply}

-- the SLIP text of the reply to an event, if there is one
abbrev pub text_for : Addr → Option Reply → List ℕ
text_for own None = []
text_for own (Some reply) = slip_text (reply_bytes own reply)

-- the SLIP texts of replies, in order
abbrev pub text_of : Addr → List Reply → List ℕ
text_of own [] = []
text_of own (reply ∷ rest) = slip_text (reply_bytes own reply) ++ text_of own rest
