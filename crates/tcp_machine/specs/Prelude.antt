-- The names of the definitions of this crate that other files cite, passed on from one place. Declares nothing.
pub use Rattle.tcp_machine.specs.Ask.{Outcome, after_own_fin, ask, ask_prepared, asked, asked_for}
pub use Rattle.tcp_machine.specs.Ask.{closes, does_as_wanted, leaves, peer_has_closed, prepared}
unfoldable pub use Rattle.tcp_machine.specs.Ask.{idles}
pub use Rattle.tcp_machine.specs.Connection.{Connection, Sockets, closed, count_of, is_live, is_resting, rcv_nxt}
pub use Rattle.tcp_machine.specs.Connection.{row_of, rows_from, same_sockets, serves, snd_una, tries_of}
pub use Rattle.tcp_machine.specs.ConstantValues.{ConstantValues}
pub use Rattle.tcp_machine.specs.Fits.{CanBeAsked, IsAnswer, Rests, SameNumbers, SameSockets, StepFits}
pub use Rattle.tcp_machine.specs.Kept.{IsRested, KeepsAll, KeepsAllButMss, KeepsAllButTimer}
pub use Rattle.tcp_machine.specs.OnSegment.{accept, accepted, by_state, connects, first_mss, has_text, delivers_text, in_state}
pub use Rattle.tcp_machine.specs.OnSegment.{is_acked, is_out_of_order, rests, takes, reported_end, with_part, with_window}
unfoldable pub use Rattle.tcp_machine.specs.OnSegment.{fin_acked, fin_waits, in_established, on_segment, peer_closes, stays_established}
pub use Rattle.tcp_machine.specs.OnTick.{by_beat, grows_older, limit_of, on_tick, outstanding, polls, tick_by, waits_for_ack}
unfoldable pub use Rattle.tcp_machine.specs.OnTick.{rests_on, ticks_established}
pub use Rattle.tcp_machine.specs.Refines.{Refines, RefinesAlone}
pub use Rattle.tcp_machine.specs.Represents.{ConnRepresents, IsLike, Meets, MeetsAlone, NumbersRepresent, TimerRepresents, is_open, plain}
pub use Rattle.tcp_machine.specs.Segments.{bare_ack, fin_of, is_again, is_plain_syn, occupies_sequence_space}
pub use Rattle.tcp_machine.specs.Segments.{reset_for_no_connection, reset_of, segment_of, syn_ack, text_segment}
pub use Rattle.tcp_machine.specs.Sound.{HasSoundNumbers, IsSound, LenFits}
