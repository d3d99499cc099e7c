-- The names that the proofs of this crate cite: of std, of the crates below, and of its own definitions. Declares nothing.
pub use Rattle.app_events.specs.Prelude.{AppSpec, AppState, CanSupply, IsByte, IsPaged, IsPrefixOf, IsRepresented, MayWant, Snapshot}
pub use Rattle.app_events.specs.Prelude.{text_left}
pub use Rattle.app_pair.specs.PairSpec.{StaysAtPort}
pub use Rattle.file_tree.specs.Prelude.{IsLoaded, SiteContent, files_of}
pub use Rattle.generators.specs.Prelude.{capture_bytes, capture_of, capture_text, either_bytes, literal_bytes}
pub use Rattle.generators.specs.declared.capture.Capture.{Capture}
pub use Rattle.generators.specs.declared.capture.Capture.TheVariants.{Empty}
pub use Rattle.httpd.specs.First.{Httpd}
pub use Rattle.httpd.specs.HttpdRepresents.{HttpdRepresents}
pub use Rattle.node_laws.specs.Prelude.{AcceptsPrefix, FollowsModelAt, FollowsPagesAt, Free, HasOutputModel, Interactive, IsPagedAt}
pub use Rattle.node_laws.specs.Prelude.{LeavesDelivered, Paged}
pub use Rattle.script_lang.specs.declared.function.Function.{Function}
pub use Rattle.site_image.specs.Prelude.{File}
pub use Rattle.std.proofs.Common.{Bool, List, None, Option, Some, [], ap, append-nil, append_assoc, arith, codes, drop, false, get_or}
pub use Rattle.std.proofs.Common.{if◌then◌else◌, inl, inr, length, length-append, length-drop, lit<, min, nat_le, nat_lt, not, refl, remove}
pub use Rattle.std.proofs.Common.{rules, slice_index_or, subst, suc, sym, take, true, true≢false, ℕ, ◌&&◌, ◌++◌, ◌+◌, ◌-◌, ◌<◌, ◌==◌, ◌||◌}
pub use Rattle.std.proofs.Common.{◌∙◌, ◌∷◌, ◌≡◌, ◌≤◌, ◌⊎◌}
pub use Rattle.std.proofs.Math.Logic.{∥∥₁_elim, ∥∥₁_map}
pub use Rattle.std.proofs.Math.Seq.{take-suc}
pub use Rattle.std.proofs.lemmas.Bool.{and_from, and_parts, eq-eqb, eqb-false, eqb-true, false_from_ne_true, le-leb, le-ltb, leb-false}
pub use Rattle.std.proofs.lemmas.Bool.{leb-true, lt-leb, lt-ltb, ltb-true, ne_eqb}
pub use Rattle.std.proofs.lemmas.List.Elements.{All-append, All-cons, All-head, All-nil, All-tail}
pub use Rattle.std.specs.Coded.{le_prop}
unfoldable pub use Rattle.std.specs.Fmt.{digits}
pub use Rattle.std.specs.Str.{bytes_eq}
pub use Rattle.telnet_shell.specs.DeskLines.{DeskSpeaksOnLines, desk_output_model}
pub use Rattle.telnet_shell.specs.DeskSpec.{app_spec_at, desk_spec}
pub use Rattle.telnet_shell.specs.DeskPorts.{DoesAs, IsAtShell, IsAtWeb, IsTwoApplications}
pub use Rattle.telnet_shell.specs.DeskRepresents.{DeskRepresents, IsShellPart, IsWebPart, at_shell, at_web, shell_left, web_left}
pub use Rattle.telnet_shell.specs.Exactly.{IsExact, all_acknowledged, capture_comes_next, completes, exact_want, is_given_up}
pub use Rattle.telnet_shell.specs.Reception.{IsLine, IsOpen, awaited}
pub use Rattle.telnet_shell.specs.Lemmas.DeskLaws.{desk_lawful, port_at, shell_port, web_port}
pub use Rattle.telnet_shell.specs.Lemmas.Growing.{commands_grow, commands_joined, further, tokens_joined, transcript_grows}
pub use Rattle.telnet_shell.specs.Lemmas.Growing.{until_quit_joined}
pub use Rattle.telnet_shell.specs.Lemmas.SameLeft.{left_of_value}
pub use Rattle.telnet_shell.specs.Lemmas.ShellLaws.{shell_lawful, shell_starts}
pub use Rattle.telnet_shell.specs.Lemmas.Speaking.{empty_stops, held_goes, past_reply, prefix_left, reply_is_not_empty, session_is, split}
pub use Rattle.telnet_shell.specs.Lemmas.Speaking.{two_parts, waiting_is}
pub use Rattle.telnet_shell.specs.Reading.{Awaits, Token, all_commands, awaits_after, command_of, commands, commands_in, has_quit, is_quit}
pub use Rattle.telnet_shell.specs.Reading.{line_after, next_awaits, tokens, tokens_at, until_quit}
pub use Rattle.telnet_shell.specs.Reading.Awaits.{Choice, Second, Text}
pub use Rattle.telnet_shell.specs.Reading.Token.{Answer, Byte}
pub use Rattle.telnet_shell.specs.Transmission.{IsLeading, IsTrailing, Passes, Shows, due, is_captured, is_past, replies_left, needed}
pub use Rattle.telnet_shell.specs.Transmission.{prefix_size, stops_at}
pub use Rattle.telnet_shell.specs.Sequences.{ReadsSequences}
pub use Rattle.telnet_shell.specs.ShellSpec.{receive_all, receive_byte, is_settled, is_stopped, left_of_session, session, session_has_ended}
pub use Rattle.telnet_shell.specs.ShellSpec.{shell_spec, shell_want, take_capture, waiting, with_byte}
pub use Rattle.telnet_shell.specs.ShellRepresents.{ShellRepresents, fresh_part}
pub use Rattle.telnet_shell.specs.State.{Shell}
pub use Rattle.telnet_shell.specs.Traces.{DeliversPrefix, KeepsSession, sessions}
pub use Rattle.telnet_shell.specs.Transcript.{past_text, function_of, needs_capture, plain_reply, reply_with, sent_at, transcript}
pub use Rattle.telnet_shell.specs.Transcript.{unfinished}
pub use Rattle.telnet_shell.specs.WorkedSessions.{AreWorkedSessions}
pub use Rattle.telnet_shell.specs.declared.TheConstants.{MOST_COMMANDS}
pub use Rattle.telnet_shell.specs.declared.command.Command.{Command}
pub use Rattle.telnet_shell.specs.declared.command.Command.TheVariants.{Blank, Conns, Help, Other, Quit, Refuse, Stats, Ticks}
pub use Rattle.telnet_shell.specs.declared.desk.Desk.{Desk}
pub use Rattle.telnet_shell.specs.declared.telnet_input.TheConstants.{DO, IAC, WILL}
pub use Rattle.telnet_shell.specs.declared.shell.TheConstants.{TELNET_PORT}
pub use Rattle.uip_node.proofs.Basics.{choose}
pub use Rattle.uip_node.proofs.DeliveredBytes.{page_bytes}
pub use Rattle.uip_node.proofs.Prelude.{Abort, All, Close, IsSteady, Nothing, Now, Send, SendsBytes, Want, bytes_eq-Decides, is_some}
pub use Rattle.uip_node.proofs.Steadiness.{steady_of}
pub use Rattle.uip_wire.specs.declared.port.TheConstants.{WEB_PORT}
pub use Rattle.web_pages.proofs.ByteLaws.{made_of_bytes}
pub use Rattle.web_pages.proofs.PageLaws.{keeps_page_laws}
pub use Rattle.web_pages.specs.Prelude.{is_served, pages_of, web_spec}
