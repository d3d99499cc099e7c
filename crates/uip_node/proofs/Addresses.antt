-- No event changes the node's own address.
use Rattle.uip_node.proofs.Prelude.{◌≡◌, ℕ, ◌&&◌, Bool, List, [], ◌∷◌, Option, None, Some, refl, ◌∙◌, position, PlainSegment, has_rst, AppSpec}
use Rattle.uip_node.proofs.Prelude.{Sockets, serves, is_plain_syn, AbstractNode, Arrived, EchoAsked, Event, IcmpRefused, IpRefused, NodeStep}
use Rattle.uip_node.proofs.Prelude.{Overlong, Periodic, TcpRefused, arrives_at, for_no_connection, happened, opens, opens_in, run}
use Rattle.uip_node.proofs.Prelude.{slot_for_syn, step}
use Rattle.uip_node.proofs.Basics.{choose}

abbrev Keeps : AbstractNode → NodeStep → Type 0
Keeps n r = r.node.addr ≡ n.addr

module _ (m : AppSpec) (served : ℕ → Bool) where
  opens_addr : (n : AbstractNode) (sockets : Sockets) (s : PlainSegment) (slot : Option ℕ) → Keeps n (opens m n sockets s slot)
  unfolding opens_in happened
  opens_addr n sockets s None = refl
  opens_addr n sockets s (Some slot) = refl

  stranger_addr : (n : AbstractNode) (sockets : Sockets) (s : PlainSegment) → Keeps n (for_no_connection m served n sockets s)
  unfolding for_no_connection
  stranger_addr n sockets s =
      choose (λ r. Keeps n r) (is_plain_syn s && served sockets.own_port.0) _ _ (λ e. opens_addr n sockets s (slot_for_syn n.connections))
      (λ e. choose (λ r. Keeps n r) (has_rst s.flags) _ _ (λ f. refl) (λ f. refl))

  arrives_addr : (n : AbstractNode) (sockets : Sockets) (s : PlainSegment) (slot : Option ℕ) → Keeps n (arrives_at m served n sockets s slot)
  unfolding happened
  arrives_addr n sockets s None = stranger_addr n sockets s
  arrives_addr n sockets s (Some slot) = refl

  pub step_addr : (n : AbstractNode) (event : Event) → Keeps n (step m served n event)
  unfolding happened
  step_addr n (IpRefused fate) = refl
  step_addr n (IcmpRefused fate) = refl
  step_addr n (TcpRefused fate) = refl
  step_addr n (EchoAsked datagram) = refl
  step_addr n (Arrived sockets s) = arrives_addr n sockets s (position (serves sockets) n.connections)
  step_addr n Overlong = refl
  step_addr n (Periodic slot) = refl

  pub run_addr : (events : List Event) (n : AbstractNode) → (run m served events n).node.addr ≡ n.addr
  run_addr [] n = refl
  run_addr (e ∷ events) n = run_addr events (step m served n e).node ∙ step_addr n e
