-- Each event is counted, and its answer counts as a retransmission exactly if it is one.
-- [add: counter] An event with a further case.
use Rattle.link_replay.proofs.Prelude.{◌≡◌, ℕ, ◌+◌, ◌==◌, Bool, true, false, not, if◌then◌else◌, ◌&&◌, List, ◌∷◌, refl, ap, ◌∙◌, Option}
use Rattle.link_replay.proofs.Prelude.{Some, None, position, eqb, arith, TcpReply, option_map, option_map_or, list_any, common_steps, wrap}
use Rattle.link_replay.proofs.Prelude.{PlainSegment, has_rst, AppSpec, Sockets, Connection, serves, Outcome, asked, accept, on_segment}
use Rattle.link_replay.proofs.Prelude.{on_tick, is_plain_syn, is_again, segment_of, initial_number, raised_by_answer, raises, times, Answer}
use Rattle.link_replay.proofs.Prelude.{Event, HistoryEntry, IpRefused, IcmpRefused, TcpRefused, EchoAsked, Arrived, Overlong, Periodic}
use Rattle.link_replay.proofs.Prelude.{Silent, NoSlot, EchoReplied, Spoke, AbstractNode, NodeStep, arrives_at, connection_in}
use Rattle.link_replay.proofs.Prelude.{for_no_connection, happened, snapshot, opens, opens_in, passes, slot_for_syn, step, choose}
use Rattle.link_replay.proofs.Prelude.{is_sent_again, resent}
use Rattle.uip_ipv4.specs.declared.fate.IpFate.TheVariants as Ip
use Rattle.icmp_echo.specs.declared.fate.IcmpFate.TheVariants as Icmp
use Rattle.tcp_segment.specs.declared.fate.TcpFate.TheVariants as Tcp

-- one more event is past, and its answer was sent again where the step sent again
record Reported (n : AbstractNode) (r : NodeStep) : Type 0 where
  pub last : HistoryEntry
  pub is : r.node.history ≡ last ∷ n.history
  pub again : raises 18 last ≡ is_sent_again r.sent

-- no event raises the counter of what is sent again
abbrev was_again : Answer → Bool
was_again answer = list_any (λ n. n == 18) (raised_by_answer answer)

by_answer : (event : Event) (answer : Answer) → raises 18 (record { event = event; answer = answer }) ≡ was_again answer
by_answer (IpRefused Ip.Short) answer = refl
by_answer (IcmpRefused Icmp.Short) answer = refl
by_answer (TcpRefused Tcp.Short) answer = refl
by_answer event answer = refl

answered : (output : Option PlainSegment) (again : Bool) (sockets : Sockets) (id : ℕ)
    → was_again (option_map_or (λ s. Spoke again) output Silent) ≡ is_sent_again (option_map (λ s. TcpReply sockets id again s) output)
answered None again sockets id = refl
answered (Some s) true sockets id = refl
answered (Some s) false sockets id = refl

passed : (n : AbstractNode) (event : Event) (answer : Answer) → was_again answer ≡ false → Reported n (passes n event answer)
passed n event answer e = record { last = record { event = event; answer = answer }; is = refl; again = by_answer event answer ∙ e }

reported_happened : (m : AppSpec) (n : AbstractNode) (event : Event) (slot : ℕ) (old : Connection) (o : Outcome) → Reported n (happened m n event slot old o)
unfolding happened
reported_happened m n event slot old o = record {
  last = record { event = event; answer = option_map_or (λ s. Spoke (is_again o.step)) (segment_of m o.connection o.step) Silent };
  is = refl;
  again = by_answer event _ ∙ answered (segment_of m o.connection o.step) (is_again o.step) o.connection.sockets _;
}

reported_opens : (m : AppSpec) (n : AbstractNode) (sockets : Sockets) (s : PlainSegment) (slot : Option ℕ) → Reported n (opens m n sockets s slot)
unfolding opens_in
reported_opens m n sockets s None = passed n (Arrived sockets s) NoSlot refl
reported_opens m n sockets s (Some slot) =
    let t = reported_happened m n (Arrived sockets s) slot (connection_in slot n) (accept (initial_number n.history) sockets s n.numbers) in
    record { last = t.last; is = t.is; again = t.again }

reported_stranger : (m : AppSpec) (served : ℕ → Bool) (n : AbstractNode) (sockets : Sockets) (s : PlainSegment)
    → Reported n (for_no_connection m served n sockets s)
unfolding for_no_connection
reported_stranger m served n sockets s =
    choose (λ (r : NodeStep). Reported n r) (is_plain_syn s && served sockets.own_port.0) _ _ (λ e. reported_opens m n sockets s (slot_for_syn n.connections))
    (λ e. choose (λ (r : NodeStep). Reported n r) (has_rst s.flags) _ _ (λ f. passed n (Arrived sockets s) Silent refl)
    (λ f. record { last = record { event = Arrived sockets s; answer = Spoke false }; is = refl; again = refl }))

reported_arrives : (m : AppSpec) (served : ℕ → Bool) (n : AbstractNode) (sockets : Sockets) (s : PlainSegment) (found : Option ℕ)
    → Reported n (arrives_at m served n sockets s found)
reported_arrives m served n sockets s None = reported_stranger m served n sockets s
reported_arrives m served n sockets s (Some slot) =
    reported_happened m n (Arrived sockets s) slot (connection_in slot n) (asked m (snapshot n (Arrived sockets s) slot)
    (on_segment m (connection_in slot n) n.numbers s))

reported : (m : AppSpec) (served : ℕ → Bool) (n : AbstractNode) (event : Event) → Reported n (step m served n event)
reported m served n (IpRefused fate) = passed n (IpRefused fate) Silent refl
reported m served n (IcmpRefused fate) = passed n (IcmpRefused fate) Silent refl
reported m served n (TcpRefused fate) = passed n (TcpRefused fate) Silent refl
reported m served n (EchoAsked datagram) = record { last = record { event = EchoAsked datagram; answer = EchoReplied }; is = refl; again = refl }
reported m served n (Arrived sockets s) = reported_arrives m served n sockets s (position (serves sockets) n.connections)
reported m served n Overlong = passed n Overlong Silent refl
reported m served n (Periodic slot) =
    reported_happened m n (Periodic slot) slot (connection_in slot n) (asked m (snapshot n (Periodic slot) slot) (on_tick m (connection_in slot n) n.numbers))

rises : (b : Bool) (t : ℕ) → not (eqb (wrap t) (wrap (if b then t + 1 else t))) ≡ b
rises true t = let e : (wrap t ≡ wrap (t + 1)) → ⊥ = λ h. omega arith in grind (arith, common_steps)
rises false t = grind (arith, common_steps)

-- the count has another value after a step exactly where the step sent again
pub resent_differs : (m : AppSpec) (served : ℕ → Bool) (n : AbstractNode) (event : Event) →
    not (eqb (resent n.history) (resent (step m served n event).node.history)) ≡ is_sent_again (step m served n event).sent
resent_differs m served n event =
    let t = reported m served n event in
    ap (λ (p : List HistoryEntry). not (eqb (resent n.history) (resent p))) t.is
    ∙ rises (raises 18 t.last) (times (raises 18) n.history)
    ∙ t.again
