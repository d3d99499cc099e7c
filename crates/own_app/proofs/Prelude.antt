-- The names that the proofs of this crate cite: of std, of the crates below, and of its own definitions. Declares nothing.
pub use Rattle.app_events.specs.Prelude.{AppState, CanSupply, IsByte, IsPrefixOf, IsRepresented, IsU32, MayWant, Snapshot}
pub use Rattle.app_events.specs.declared.now.Now.{Now}
pub use Rattle.app_events.specs.declared.want.Want.TheVariants.{Abort, Close, Nothing, Send}
pub use Rattle.node_laws.specs.Prelude.{FollowsPagesAt, IsDecoded, TraceConforms, TraceEntry}
pub use Rattle.own_app.specs.Prelude.{Happens, IsMessage, IsOwnStep, OwnRepresents, OwnSpeaksOnLines, OwnState, OwnStep, OwnTraceConforms}
pub use Rattle.own_app.specs.Prelude.{PlainMessage, StateRepresents, Writes, after_capture, after_input, bytes_taken, has_last, is_due}
pub use Rattle.own_app.specs.Prelude.{is_next_message, is_overrun, left_of_value, len_left, message_in, message_of, messages_text}
pub use Rattle.own_app.specs.Prelude.{messages_text_more, next_ticket, not_true, numbers_of, opened_in, own_lawful, own_output_model}
pub use Rattle.own_app.specs.Prelude.{own_sessions, own_spec, own_trace, own_want, pending, state_of, with_message, with_written}
pub use Rattle.own_app.specs.Prelude.{write_message}
pub use Rattle.own_app.specs.declared.app.OwnApp.{OwnApp}
pub use Rattle.std.proofs.Common.{Bool, List, [], ap, append-nil, append_assoc, arith, drop, false, if◌then◌else◌, inl, inr, length}
pub use Rattle.std.proofs.Common.{length-append, length-drop, map, nat_le, nat_lt, not, refl, subst, sym, take, true, ℕ, ◌%◌, ◌&&◌, ◌++◌}
pub use Rattle.std.proofs.Common.{◌+◌, ◌-◌, ◌<◌, ◌==◌, ◌||◌, ◌∙◌, ◌∷◌, ◌≡◌, ◌≤◌, ◌⊎◌}
pub use Rattle.std.proofs.Math.Logic.{∥∥₁_elim}
pub use Rattle.std.proofs.lemmas.Bool.{and_parts, eq-eqb, eqb-true, false≢true, le-ltb, leb-false, leb-true, lt-ltb, ltb-false, ltb-true}
pub use Rattle.std.proofs.lemmas.Bool.{ne_eqb}
pub use Rattle.std.proofs.lemmas.List.{drop-append-le, drop-drop}
pub use Rattle.std.proofs.lemmas.List.Elements.{All-append, All-cons, All-drop, All-head, All-nil, All-tail}
pub use Rattle.std.specs.Coded.{le_prop}
pub use Rattle.std.specs.List.{All}
pub use Rattle.uip_node.specs.Prelude.{AbstractNode, Event, IsSteady, SendsBytes, initial_node, step}
pub use Rattle.uip_wire.specs.declared.addr.Addr.{Addr}
