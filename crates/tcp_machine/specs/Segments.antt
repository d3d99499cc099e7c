-- The segments that a connection sends (RFC 793, section 3.1). Each starts at SND.UNA.
use Rattle.std.specs.Prelude.{◌+◌, ◌==◌, ◌||◌, Bool, false, [], length, take, nat_lt, Option, Some, None}
use Rattle.uip_wire.specs.Prelude.{wrap}
use Rattle.uip_wire.specs.declared.sizes.TheConstants.{OWN_MSS}
use Rattle.tcp_segment.specs.declared.flags.TheConstants.{FIN, SYN, RST, PSH, ACK}
use Rattle.tcp_segment.specs.Prelude.{PlainSegment, has_syn, has_fin}
use Rattle.app_events.specs.Prelude.{AppSpec, text_left}
use Rattle.tcp_machine.specs.Connection.{Connection, snd_una, rcv_nxt}
use Rattle.tcp_machine.specs.declared.step.Step.{Step}

-- The segment carries SYN, text or FIN: SEG.LEN (RFC 793, section 3.3) is above 0.
abbrev pub occupies_sequence_space : PlainSegment → Bool
occupies_sequence_space s = nat_lt 0 (length s.text) || (has_syn s.flags || has_fin s.flags)

-- SYN is the only one of the six flags.
abbrev pub is_plain_syn : PlainSegment → Bool
is_plain_syn s = s.flags == SYN

-- an ACK without text; all segments of a connection extend it
abbrev pub bare_ack : Connection → PlainSegment
bare_ack c = record { seq = snd_una c; ack = rcv_nxt c; flags = ACK; window = OWN_MSS; mss = None; text = [] }

abbrev pub syn_ack : Connection → PlainSegment
syn_ack c = record (bare_ack c) { flags = SYN + ACK; mss = Some OWN_MSS }

-- the output after the acknowledged offset, as long as what is outstanding
abbrev pub text_segment : AppSpec → Connection → PlainSegment
text_segment m c = record (bare_ack c) { flags = ACK + PSH; text = take c.len (text_left m c.part) }

abbrev pub fin_of : Connection → PlainSegment
fin_of c = record (bare_ack c) { flags = FIN + ACK }

abbrev pub reset_of : Connection → PlainSegment
reset_of c = record (bare_ack c) { flags = RST + ACK; window = 0 }

-- the reply to a segment that belongs to no connection (RFC 793, section 3.4)
abbrev pub reset_for_no_connection : PlainSegment → PlainSegment
reset_for_no_connection s = record { seq = s.ack; ack = wrap (s.seq + 1); flags = RST + ACK; window = 0; mss = None; text = [] }

-- the segment sent for a step; c is the connection after it
abbrev pub segment_of : AppSpec → Connection → Step → Option PlainSegment
segment_of m c Step.Ack = Some (bare_ack c)
segment_of m c (Step.SynAck again) = Some (syn_ack c)
segment_of m c (Step.Text again) = Some (text_segment m c)
segment_of m c (Step.Fin again) = Some (fin_of c)
segment_of m c Step.Reset = Some (reset_of c)
segment_of m c _ = None

-- The step retransmits what is outstanding.
abbrev pub is_again : Step → Bool
is_again (Step.SynAck again) = again
is_again (Step.Text again) = again
is_again (Step.Fin again) = again
is_again _ = false
