-- Acts are refused before there are more than 65,535 datagrams, so a world that is reached has at most that number.
use Rattle.link_world.proofs.Prelude.{option_or, ◌≡◌, ℕ, suc, ◌+◌, ◌≤◌, Bool, true, false, List, [], ◌∷◌, length, refl, ap, arith, Option}
use Rattle.link_world.proofs.Prelude.{Some, None, ltb, if◌then◌else◌, common_steps, AppSpec, ticks_of, Event, Reply, tick, Arrived}
use Rattle.link_world.proofs.Prelude.{EchoAsked, Echo, TcpReply, NodeStep, step, AbstractClient, ClientStep, client_takes}
use Rattle.link_world.proofs.Prelude.{advertises_window, client_opens, client_again, client_closes, client_aborts, client_acts, does}
use Rattle.link_world.proofs.Prelude.{fault_of, handles_all, named_fault, needs, ping_from, Content, Sent, Side, World, addressed, retires}
use Rattle.link_world.proofs.Prelude.{client_sockets, client_stepped, delivers, epoch_of, marked, node_handles, node_stepped, posts}
use Rattle.link_world.proofs.Prelude.{posts_reply, with_client, with_side, OfSegment, OfPing, OfEcho, Act, StepFault, Full, Who, FromClient}
use Rattle.link_world.proofs.Prelude.{FromNode, Pinger}
use Rattle.link_world.proofs.Doing.{at_number, where_there, delivered_by}
use Rattle.link_world.proofs.Harmless.{Harmless}
use Rattle.link_world.proofs.Rounds.{one_longer}

-- v has at most this number of datagrams more than w
abbrev pub Adds : ℕ → World → World → Type 0
Adds n w v = length v.sent ≤ length w.sent + n

-- at most 65,535
abbrev pub HasRoom : World → Type 0
HasRoom w = length w.sent ≤ 65535

posts_one : (w : World) (who : Who) (again : Bool) (content : Content) → Adds 1 w (posts w who again content)
posts_one w who again content =
    let new : Sent = record { who = who; tick = ticks_of w.node.history; epoch = epoch_of who w.sides; again = again; content = content } in
    omega (arith, one_longer w.sent new)

reply_one : (w : World) (r : Option Reply) → Adds 1 w (posts_reply w r)
reply_one w None = omega arith
reply_one w (Some (Echo request)) = posts_one w (FromNode 0) false (OfEcho request)
reply_one w (Some (TcpReply sockets id again s)) = posts_one w (FromNode (addressed 1 sockets w.sides)) again (OfSegment id s)

stepped_one : (w : World) (r : NodeStep) → Adds 1 w (node_stepped w r)
stepped_one w r = reply_one (record w { node = r.node; sides = retires r.gone w.sides }) r.sent

client_one : (w : World) (number : ℕ) (base : Side) (took : ClientStep) → Adds 1 w (client_stepped w number base took)
client_one w number base took =
    let v : World = with_side w number (with_client base took.client) in
    where_there (λ x. Adds 1 w x) (λ s. posts v (FromClient number) false (OfSegment 0 s)) took.sent v (none v)
    (λ s e. posts_one v (FromClient number) false (OfSegment 0 s))
  where
    none : (v : World) → Adds 1 v v
    none v = omega arith

same : (w : World) → Adds 1 w w
same w = omega arith

module _ (m : AppSpec) (served : ℕ → Bool) where
  handles_one : (w : World) (event : Event) → Adds 1 w (node_handles m served w event)
  handles_one w event = stepped_one w (step m served w.node event)

  handles_each : (events : List Event) (w : World) → Adds (length events) w (handles_all m served events w)
  handles_each [] w = omega arith
  handles_each (e ∷ events) w = (let v = node_handles m served w e in let one = handles_one w e in let rest = handles_each events v in omega (arith, one, rest))

  delivers_one : (w : World) (k : ℕ) (e : Sent) (who : Who) (content : Content) → Adds 1 w (delivers m served w k e who content)
  delivers_one w k e who content =
      delivered_by m served (Adds 1 w) w k e who content (same w) (λ n side at s. handles_one (with_side w (suc n) (marked side k e))
      (Arrived (client_sockets side) s))
      (λ n side at s. client_one w (suc n) (marked side k e) (client_takes side.client s)) (λ datagram is. handles_one w (EchoAsked datagram))

  acts_one : (w : World) (number : ℕ) (act : AbstractClient → ClientStep) → Adds 1 w (client_acts w number act)
  acts_one w number act = at_number (λ v. Adds 1 w v) (λ i side. client_stepped w i side (act side.client)) w.sides number w (same w)
      (λ n side at. client_one w (suc n) side (act side.client))

  -- an advertised window of a client sends nothing
  window_none : (w : World) (number x : ℕ) → Adds 0 w (client_acts w number (advertises_window x))
  window_none w number x = at_number (λ v. Adds 0 w v) (λ i side. client_stepped w i side (advertises_window x side.client)) w.sides number
      w (omega arith) (λ n side at. omega arith)

  does_adds : (w : World) (act : Act) → Harmless m served w act → Adds (needs act) w (does m served w act)
  does_adds w (Act.Opens n) h = acts_one w n client_opens
  does_adds w (Act.Again n) h = acts_one w n client_again
  does_adds w (Act.Closes n) h = acts_one w n client_closes
  does_adds w (Act.Aborts n) h = acts_one w n client_aborts
  does_adds w (Act.Window n x) h = window_none w n x
  does_adds w (Act.Ping source) h = posts_one w Pinger false (OfPing (ping_from source w.node.addr))
  does_adds w (Act.Give k) h = at_number (λ v. Adds 1 w v) (λ i e. delivers m served w i e e.who e.content) w.sent k w (same w)
      (λ n e at. delivers_one w (suc n) e e.who e.content)
  does_adds w (Act.Damage k at mask) h = omega (arith, ap (λ (x : List Sent). length x) h.sent)
  does_adds w Act.Tick h = handles_each tick w

  room_left : (named : Option StepFault) (a b : ℕ) → option_or named (if ltb a b then Some Full else None) ≡ None → b ≤ a
  room_left None a b e = room_by a b (ltb a b) refl e
    where
      room_by : (a b : ℕ) (full : Bool) → ltb a b ≡ full → (if full then Some Full else None) ≡ None → b ≤ a
      room_by a b true q e = absurd (cc)
      room_by a b false q e = grind (arith, common_steps)
  room_left (Some f) a b e = absurd (cc)

  -- an accepted act leaves room
  pub keeps_room : (w : World) (act : Act) → Harmless m served w act → fault_of w act ≡ None → HasRoom (does m served w act)
  keeps_room w act h f =
      let n = does_adds w act h in
      let r : length w.sent + needs act ≤ 65535 = room_left (named_fault w act) 65535 (length w.sent + needs act) f in
      omega (arith, n, r)
