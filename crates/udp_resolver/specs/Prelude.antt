-- The names of the definitions of this crate that other files cite, passed on from one place. Declares nothing.
pub use Rattle.udp_resolver.specs.Asked.{asked_at, last_ident, line_text, next_ident, open_ones, queries, query_texts}
pub use Rattle.udp_resolver.specs.ConstantValues.{ConstantValues}
pub use Rattle.udp_resolver.specs.Fates.{Question, all_settled, answer_among, before_silence, fate_by, fate_of, first_answer}
pub use Rattle.udp_resolver.specs.Fates.{is_given_up, is_settled, last_silence, next_asking, questions, questions_of, silences}
pub use Rattle.udp_resolver.specs.FromLine.{EventsAreOfLine, came_in, carried_by, silent_items}
pub use Rattle.udp_resolver.specs.LineEvents.{LineEvent, MediumInput, Silence, by_frame, events, received_after}
pub use Rattle.udp_resolver.specs.Lines.{fate_text, line_of, lines}
pub use Rattle.udp_resolver.specs.Resolving.{IsDone, IsOpen, IsSettled, LastAsked, LinkFailed}
pub use Rattle.udp_resolver.specs.Resolving.{OutFailed, Resolves, ResolvesBy, ReportFailed, WroteAll}
pub use Rattle.udp_resolver.specs.Representing.{Adds, Asks, AsksOn, Done, RunRepresents, WritesSome}
pub use Rattle.udp_resolver.specs.Steps.{IsClockAt, asked_next, received_now, is_due, lines_by, unanswered, unless_answered}
pub use Rattle.udp_resolver.specs.Streams.{Streams, StreamsUnfailed, streams}
pub use Rattle.udp_resolver.specs.Reported.{AddressesAreFromReplies}
pub use Rattle.udp_resolver.specs.ReportedEnds.{BudgetIsReported, DryIsReported, SettledIsReported}
