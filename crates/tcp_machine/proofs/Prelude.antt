-- The names that the proofs of this crate cite: of std, of the crates below, and of its own definitions. Declares nothing.
pub use Rattle.app_events.proofs.Says.{can_less, can_nothing, can_supply_after, can_supply_wanted, grows_by_nothing, has_part}
pub use Rattle.app_events.proofs.Says.{has_part_after}
pub use Rattle.app_events.specs.Prelude.{AppSpec, AppState, CanSupply, CanSend, Grows, IsLawful, IsRepresented, text_left}
pub use Rattle.app_events.specs.declared.app.App.{Ghosts}
pub use Rattle.app_events.specs.declared.now.Now.{Now}
pub use Rattle.app_events.specs.declared.state.State.{State}
pub use Rattle.app_events.specs.declared.state.State.TheVariants.{CloseWait, Closed, Closing, Established, FinWait1, FinWait2, LastAck}
pub use Rattle.app_events.specs.declared.state.State.TheVariants.{SynRcvd, TimeWait}
pub use Rattle.app_events.specs.declared.want.Want.{Want}
pub use Rattle.app_events.specs.declared.want.Want.TheVariants.{Send}
pub use Rattle.rexmit_timer.specs.Prelude.{IsAtAge, IsBeatOfAge, beat_at, give_up_age}
pub use Rattle.rexmit_timer.specs.declared.timer.Beat.{Beat}
pub use Rattle.rexmit_timer.specs.declared.timer.Beat.TheVariants.{Again, GiveUp, Wait}
pub use Rattle.rexmit_timer.specs.declared.timer.Timer.{Timer}
pub use Rattle.std.proofs.Common.{Bool, List, ap, arith, false, if◌then◌else◌, min, nat_lt, refl, rules, subst, sym, true, ℕ, ◌*◌, ◌+◌, ◌<◌}
pub use Rattle.std.proofs.Common.{◌==◌, ◌^◌, ◌∙◌, ◌≡◌, ◌≢◌, ◌≤◌}
pub use Rattle.std.proofs.Math.Logic.{∥∥₁_elim}
pub use Rattle.std.proofs.lemmas.Bool.{agree_below_at, eq-eqb, ltb-true}
pub use Rattle.std.specs.Coded.{le_prop}
pub use Rattle.std.specs.List.{list_any}
pub use Rattle.std.specs.Prelude.{[], length, ◌∷◌}
pub use Rattle.tcp_machine.specs.Prelude.{ConnRepresents, Connection, HasSoundNumbers, IsSound, Meets, MeetsAlone, NumbersRepresent}
pub use Rattle.tcp_machine.specs.Prelude.{Outcome, Refines, RefinesAlone, TimerRepresents, by_beat, by_state, grows_older, delivers_text}
pub use Rattle.tcp_machine.specs.Prelude.{is_live, is_open, limit_of, outstanding, plain, tick_by, waits_for_ack}
unfoldable pub use Rattle.tcp_machine.specs.Prelude.{peer_closes}
pub use Rattle.tcp_machine.specs.declared.step.Step.{Step}
pub use Rattle.tcp_segment.specs.Prelude.{PlainSegment}
pub use Rattle.tcp_table.specs.declared.conn.Conn.{Conn}
