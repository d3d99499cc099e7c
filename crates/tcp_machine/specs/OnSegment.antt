-- A segment arrives at a connection (RFC 793, section 3.9, SEGMENT ARRIVES): four checks, then the row of the state.
-- [add: state] Its row, in `by_state`, and how the application is informed of an end.
use Rattle.std.specs.Prelude.{ℕ, ◌+◌, min, Bool, true, false, not, List, [], ◌∷◌, length, nat_lt, ◌==◌, ◌&&◌, if◌then◌else◌, Option}
use Rattle.std.specs.Option.{option_map_or}
use Rattle.uip_wire.specs.Prelude.{wrap}
use Rattle.uip_wire.specs.declared.sizes.TheConstants.{OWN_MSS}
use Rattle.tcp_segment.specs.Prelude.{PlainSegment, has_fin, has_rst, has_ack}
use Rattle.app_events.specs.Prelude.{AppState, After, AppSpec}
use Rattle.app_events.specs.declared.ending.Ending.{Ending}
use Rattle.app_events.specs.declared.ending.Ending.TheVariants.{Reset}
use Rattle.app_events.specs.declared.state.State.{State}
use Rattle.app_events.specs.declared.state.State.TheVariants.{SynRcvd, Established, CloseWait, FinWait1}
use Rattle.app_events.specs.declared.state.State.TheVariants.{FinWait2, Closing, TimeWait, LastAck}
use Rattle.tcp_machine.specs.Connection.{Sockets, Connection, closed, snd_una, rcv_nxt}
use Rattle.tcp_machine.specs.Segments.{occupies_sequence_space}
use Rattle.tcp_machine.specs.Ask.{Outcome, leaves, closes}
use Rattle.tcp_machine.specs.declared.passive_open.TheConstants.{DEFAULT_MSS}
use Rattle.tcp_machine.specs.declared.step.Step.{Step}

-- The longest text that the peer accepts, by the MSS option of its SYN, and at most `OWN_MSS` (1,460). It is 536 if there is no option,
-- or it is 0 (RFC 1122, section 4.2.2.6).
abbrev pub first_mss : Option ℕ → ℕ
first_mss mss = option_map_or (λ n. if n == 0 then DEFAULT_MSS else min OWN_MSS n) mss DEFAULT_MSS

-- A plain SYN opens a connection in SYN-RECEIVED. Its text is not accepted.
abbrev pub accepted : ℕ → Sockets → PlainSegment → Connection
accepted iss sockets s = record closed {
  state = SynRcvd;
  sockets = sockets;
  irs = s.seq;
  iss = iss;
  len = 1;
  initial_mss = first_mss s.mss;
  mss = first_mss s.mss;
  part = record closed.part { port = sockets.own_port.0 };
}

abbrev pub accept : ℕ → Sockets → PlainSegment → List ℕ → Outcome
accept iss sockets s numbers = leaves (accepted iss sockets s) numbers (Step.SynAck false)

-- The application is notified of the end while it might still have sent.
abbrev pub reported_end : AppSpec → Ending → State → AppState → List ℕ → List ℕ
reported_end m how Established p numbers = m.ended numbers p how
reported_end m how CloseWait p numbers = m.ended numbers p how
reported_end m how _ p numbers = numbers

-- Check 2: a segment that occupies sequence space must start at RCV.NXT.
abbrev pub is_out_of_order : Connection → PlainSegment → Bool
is_out_of_order c s = occupies_sequence_space s && not (s.seq == rcv_nxt c)

-- Check 3: the segment acknowledges everything outstanding.
abbrev pub is_acked : Connection → PlainSegment → Bool
is_acked c s = has_ack s.flags && (nat_lt 0 c.len && (s.ack == wrap (snd_una c + c.len)))

-- Nothing is outstanding any more, and the timer stops.
abbrev pub rests : Connection → Connection
rests c = record c { acked = c.acked + c.len; len = 0; age = 0 }

abbrev pub has_text : PlainSegment → Bool
has_text s = nat_lt 0 (length s.text)

-- The text, if any, is delivered to the application.
abbrev pub delivers_text : AppSpec → List ℕ → AppState → List ℕ → After
delivers_text m numbers p [] = record { part = p; numbers = numbers }
delivers_text m numbers p (x ∷ xs) = m.newdata numbers p (x ∷ xs)

-- RCV.NXT advances by n.
abbrev pub takes : ℕ → Connection → Connection
takes n c = record c { taken = c.taken + n }

abbrev pub with_part : AppState → Connection → Connection
with_part p c = record c { part = p }

abbrev pub in_state : State → Connection → Connection
in_state state c = record c { state = state }

-- The window of the peer bounds the next text. A window of 0 counts as an open one.
abbrev pub with_window : ℕ → Connection → Connection
with_window window c = record c { mss = (if window == 0 then c.initial_mss else min c.initial_mss window) }

-- SYN-RECEIVED, acknowledged: the application is connected, and receives the text of the segment. A FIN is not accepted.
abbrev pub connects : AppSpec → Connection → List ℕ → PlainSegment → Outcome
connects m c numbers s =
    let start : After = m.connected numbers c.sockets.own_port.0 in
    let delivered : After = delivers_text m start.numbers start.part s.text in
    leaves (with_part delivered.part (takes (length s.text) (in_state Established (rests c)))) delivered.numbers (Step.Ask (has_text s))

-- ESTABLISHED, a segment with FIN
unfoldable pub peer_closes : AppSpec → Connection → List ℕ → PlainSegment → Outcome
peer_closes m c numbers s =
    let delivered : After = delivers_text m numbers c.part s.text in
    let d : Connection = in_state CloseWait (with_window s.window (with_part delivered.part (takes (length s.text + 1) c))) in
    if nat_lt 0 c.len then leaves d delivered.numbers Step.Ack else leaves d delivered.numbers (Step.Ask true)

-- ESTABLISHED, a segment without FIN
unfoldable pub stays_established : AppSpec → Bool → Connection → List ℕ → PlainSegment → Outcome
stays_established m acked c numbers s =
    let delivered : After = delivers_text m numbers c.part s.text in
    let d : Connection = with_window s.window (with_part delivered.part (takes (length s.text) c)) in
    if not acked && not (has_text s) then leaves d delivered.numbers Step.Drop
    else if nat_lt 0 c.len then leaves d delivered.numbers Step.Ack
    else leaves d delivered.numbers (Step.Ask (has_text s))

unfoldable pub in_established : AppSpec → Bool → Connection → List ℕ → PlainSegment → Outcome
in_established m acked c numbers s = if has_fin s.flags then peer_closes m c numbers s else stays_established m acked c numbers s

-- FIN-WAIT-1, acknowledged: text and FIN are accepted. The text is acknowledged but discarded.
unfoldable pub fin_acked : Connection → List ℕ → PlainSegment → Outcome
fin_acked c numbers s =
    if has_fin s.flags then leaves (in_state TimeWait (takes (length s.text + 1) (rests c))) numbers Step.Ack
    else leaves (in_state FinWait2 (takes (length s.text) (rests c))) numbers Step.Drop

-- After the own FIN: text is acknowledged but discarded. A FIN leads to the given connection.
unfoldable pub fin_waits : Connection → Connection → List ℕ → PlainSegment → Outcome
fin_waits closed_by_peer c numbers s =
    if has_fin s.flags then leaves closed_by_peer numbers Step.Ack
    else if has_text s then leaves (takes (length s.text) c) numbers Step.Ack
    else leaves c numbers Step.Drop

-- The row of the state; `acked` is the result of check 3. In ESTABLISHED and CLOSE-WAIT the application is first notified of an
-- acknowledgement.
abbrev pub by_state : AppSpec → State → Bool → Connection → List ℕ → PlainSegment → Outcome
by_state m SynRcvd true c numbers s = connects m c numbers s
by_state m Established true c numbers s =
    let notified : After = m.acked numbers c.part c.len in
    in_established m true (with_part notified.part (rests c)) notified.numbers s
by_state m Established false c numbers s = in_established m false c numbers s
by_state m CloseWait true c numbers s =
    let notified : After = m.acked numbers c.part c.len in
    leaves (with_window s.window (with_part notified.part (rests c))) notified.numbers (Step.Ask false)
by_state m CloseWait false c numbers s = leaves (with_window s.window c) numbers Step.Drop
by_state m FinWait1 true c numbers s = fin_acked c numbers s
by_state m FinWait1 false c numbers s = fin_waits (in_state Closing (takes (length s.text + 1) c)) c numbers s
by_state m FinWait2 acked c numbers s = fin_waits (record (in_state TimeWait (takes (length s.text + 1) c)) { age = 0 }) c numbers s
by_state m Closing true c numbers s = leaves (in_state TimeWait (rests c)) numbers Step.Drop
by_state m LastAck true c numbers s = leaves (closes (rests c)) numbers Step.Drop
by_state m TimeWait acked c numbers s = leaves c numbers Step.Ack
by_state m _ acked c numbers s = leaves c numbers Step.Drop

-- Check 1: a RST closes the connection, whatever its sequence number.
unfoldable pub on_segment : AppSpec → Connection → List ℕ → PlainSegment → Outcome
on_segment m c numbers s =
    if has_rst s.flags then leaves (closes c) (reported_end m Reset c.state c.part numbers) Step.Drop
    else if is_out_of_order c s then leaves c numbers Step.Ack
    else by_state m c.state (is_acked c s) c numbers s
