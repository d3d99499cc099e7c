-- The names that the proofs of this crate cite: of std, of the crates below, and of its own definitions. Declares nothing.
pub use Rattle.app_events.specs.Prelude.{AppState, IsByte, IsU32, After, AppSpec, Snapshot}
pub use Rattle.app_pair.proofs.PairActs.{two_applications}
pub use Rattle.app_pair.specs.Lemmas.NumberLaws.{own_back, second_back, second_kept}
pub use Rattle.app_pair.specs.PairNumbers.{change_own, own_numbers, pair_numbers, with_own}
pub use Rattle.app_pair.specs.PairSpec.{CanBePaired, own_part, pair_spec}
pub use Rattle.own_app.proofs.CaptureLaws.{message_back, taken_more, nothing_left}
pub use Rattle.own_app.specs.Lemmas.OwnPairs.{own_can_pair}
pub use Rattle.own_app.specs.Prelude.{next_ticket, own_spec, IsMessage, PlainMessage, is_own_port, write_message, message_of, numbers_of}
pub use Rattle.own_app.specs.Prelude.{is_open_port, with_port}
pub use Rattle.own_node.specs.Prelude.{HasCaptured, can_write_at, can_write_in, is_ready_at, next_message, PairsCaptureReadyMessages}
pub use Rattle.own_node.specs.Prelude.{ReadyMessagesAreCaptured, called_after, called_in_pair, is_open_state, next_message_at}
pub use Rattle.own_node.specs.Prelude.{own_connection, with_change, seen_in_pair, SeesOwn, can_write_by, is_established, is_ready_by}
pub use Rattle.own_node.specs.Prelude.{message_by, pending_at, pending_by, port_at, port_by}
pub use Rattle.own_node.specs.Written.{is_accepted}
pub use Rattle.std.proofs.Common.{◌≡◌, ℕ, zero, suc, ◌<◌, ◌==◌, Bool, true, if◌then◌else◌, List, [], ◌∷◌, ◌++◌, length, nat_le, refl, sym}
pub use Rattle.std.proofs.Common.{arith, ◌+◌, ◌%◌, ◌&&◌, false, drop, nat_lt, not, ap, ◌∙◌, map, subst, ◌⊎◌, inl, inr, Option, Some, None}
pub use Rattle.std.proofs.Common.{MatchOption, ◌≤◌, append-nil, length-append, ◌-◌, ◌||◌, eqb, ltb, length-drop, length-take, take}
pub use Rattle.std.proofs.lemmas.Bool.{and_parts, false≢true, and_from, eq-eqb, eqb-true, leb-true, ltb-false, le-leb}
pub use Rattle.tcp_machine.specs.Prelude.{Connection, closed, is_open, Outcome, asked, does_as_wanted, on_tick, peer_has_closed, polls}
pub use Rattle.tcp_machine.specs.Prelude.{prepared, tick_by, waits_for_ack, Sockets, by_beat, by_state, has_text, delivers_text, in_state}
pub use Rattle.tcp_machine.specs.Prelude.{is_acked, is_out_of_order, rests, takes, reported_end, with_part, ConnRepresents, is_live}
pub use Rattle.tcp_machine.specs.Prelude.{accepted, is_plain_syn, serves}
unfoldable pub use Rattle.tcp_machine.specs.Prelude.{idles, ticks_established, fin_acked, fin_waits, in_established, on_segment}
unfoldable pub use Rattle.tcp_machine.specs.Prelude.{peer_closes, stays_established}
pub use Rattle.uip_node.proofs.Basics.{choose, both_ways}
pub use Rattle.uip_node.proofs.Cases.{Unmoved, asked_by, by_own_fin, is_ask, no_ask_again, on_tick_by, wanted_unmoved}
pub use Rattle.uip_node.proofs.Prelude.{Abort, AbstractNode, Addr, All, AllWellFormed, Close, CloseWait, Closed, Closing, Ending}
pub use Rattle.uip_node.proofs.Prelude.{Established, Event, FinWait1, FinWait2, LastAck, NodeStep, Nothing, Now, PlainSegment, Send}
pub use Rattle.uip_node.proofs.Prelude.{SlotsRepresent, State, SynRcvd, TimeWait, Want, connection_in, has_fin, has_rst, initial_node}
pub use Rattle.uip_node.proofs.Prelude.{position, replicate, run, slice_get, slice_index_or, slice_set, step}
pub use Rattle.uip_node.specs.Node.{periodic, arrives_at, opens, slot_for_syn, snapshot}
unfoldable pub use Rattle.uip_node.specs.Node.{for_no_connection, happened, opens_in}
pub use Rattle.std.proofs.lemmas.List.Elements.{All-nil, All-head, All-tail}
pub use Rattle.std.proofs.lemmas.List.{drop-drop, get_or-drop, get_or-take}
pub use Rattle.uip_node.proofs.Connections.{index_of, find_is, finds, finds_none}
pub use Rattle.uip_node.specs.Counters.{initial_number}
pub use Rattle.uip_node.specs.Events.Event.{Arrived, EchoAsked, IcmpRefused, IpRefused, Overlong, Periodic, TcpRefused}
