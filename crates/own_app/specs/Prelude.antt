-- The names of the definitions of this crate that other files cite, passed on from one place. Declares nothing.
pub use Rattle.own_app.specs.Lemmas.OwnLaws.{left_of_value, messages_text_more, not_true, own_lawful}
pub use Rattle.own_app.specs.OwnLines.{OwnSpeaksOnLines, own_output_model, own_sessions}
pub use Rattle.own_app.specs.OwnRepresents.{OwnRepresents, OwnState, StateRepresents, after_capture, after_input, is_due, message_of}
pub use Rattle.own_app.specs.OwnRepresents.{state_of}
pub use Rattle.own_app.specs.OwnSpec.{PlainMessage, bytes_taken, fresh_part, has_last, is_next_message, is_overrun, len_left, message_in}
pub use Rattle.own_app.specs.OwnSpec.{is_own_port, messages_text, next_ticket, no_message, numbers_of, opened_in, own_spec, own_want}
pub use Rattle.own_app.specs.OwnSpec.{pending, with_message, write_message}
pub use Rattle.own_app.specs.Ports.{can_listen, is_open_port, is_program_port, with_port}
pub use Rattle.own_app.specs.OwnTraces.{Happens, IsMessage, IsOwnStep, OwnStep, OwnTraceConforms, Writes, own_trace, with_written}
