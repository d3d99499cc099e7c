-- The names that the proofs of this crate cite: of std, of the crates below, and of its own definitions. Declares nothing.
pub use Rattle.app_pair.specs.PairSpec.{StaysAtPort}
pub use Rattle.desk_laws.specs.Prelude.{AreWorkedWorlds, DeskMarksRepeats, DeskOneSegment, DeskRepeatsSameBytes, DeskSendsAgain, DeskServes}
pub use Rattle.desk_laws.specs.Prelude.{IsReachedByDesk, SessionsAreShort}
pub use Rattle.file_tree.specs.Prelude.{IsLoaded, SiteContent, files_of}
pub use Rattle.generators.specs.Prelude.{capture_of, capture_text, texts_short}
pub use Rattle.generators.specs.declared.capture.Capture.{Capture}
pub use Rattle.generators.specs.declared.capture.Capture.TheVariants.{Empty}
unfoldable pub use Rattle.link_client.specs.Prelude.{aborts_by, again_by, client_takes, closes_by, opens_by, sends_next, takes_by}
unfoldable pub use Rattle.link_client.specs.Prelude.{takes_in_order}
pub use Rattle.link_world.proofs.OneClientFact.{Framed}
pub use Rattle.link_world.proofs.OneSegmentInvariant.{in_step_plainly, in_step_where}
pub use Rattle.link_world.proofs.PrefixAndWhole.{AtPorts, G, act_good, evict, mark, opening_framed, other, reset, served_in}
pub use Rattle.link_world.proofs.Runs.{reached_plainly, reached_where}
pub use Rattle.link_world.proofs.SentBytes.{SendsBytesWhere}
pub use Rattle.link_world.proofs.RetransmissionInvariant.{again_exactly_plainly, again_exactly_where, same_bytes_plainly, same_bytes_where}
pub use Rattle.link_world.proofs.Speaking.{HasOutputModel, ReceivesSome, KeepsReceived, Speaker, page_by}
pub use Rattle.link_world.proofs.Ticks.{tick}
pub use Rattle.link_world.specs.Prelude.{IsServed, Side, World}
pub use Rattle.script_lang.specs.Prelude.{length_at_most}
pub use Rattle.site_image.specs.Prelude.{File}
pub use Rattle.std.proofs.Common.{Bool, List, [], ap, append-nil, arith, false, if◌then◌else◌, inl, inr, length, length-append, lit<, lit≤}
pub use Rattle.std.proofs.Common.{not, refl, subst, sym, true, ℕ, ◌*◌, ◌++◌, ◌+◌, ◌<◌, ◌==◌, ◌∙◌, ◌∷◌, ◌≡◌, ◌≤◌}
pub use Rattle.std.proofs.lemmas.List.Elements.{All-head, All-tail}
unfoldable pub use Rattle.std.specs.Fmt.{digits}
pub use Rattle.std.specs.Prelude.{codes}
unfoldable pub use Rattle.tcp_segment.specs.Prelude.{datagram_bytes, segment_in}
pub use Rattle.telnet_shell.proofs.DeskSteady.{desk_steady}
pub use Rattle.telnet_shell.proofs.SessionLaws.{keeps_session}
pub use Rattle.telnet_shell.proofs.TwoApplications.{two_applications}
pub use Rattle.telnet_shell.proofs.TwoBytes.{desk_bytes}
pub use Rattle.telnet_shell.specs.DeskSpec.{app_spec_at, desk_spec}
pub use Rattle.telnet_shell.specs.DeskRepresents.{at_shell, at_web}
pub use Rattle.telnet_shell.specs.Reading.{Awaits, Token, all_commands, commands, commands_in, is_quit, next_awaits, tokens, until_quit}
pub use Rattle.telnet_shell.specs.Reading.Awaits.{Choice, Second, Text}
pub use Rattle.telnet_shell.specs.Reading.Token.{Answer, Byte}
pub use Rattle.telnet_shell.specs.ShellSpec.{is_stopped, shell_spec, take_capture}
pub use Rattle.telnet_shell.specs.Traces.{DeliversPrefix, sessions}
pub use Rattle.telnet_shell.specs.Transcript.{function_of, needs_capture, plain_reply, reply_with, transcript}
pub use Rattle.telnet_shell.specs.declared.command.Command.{Command}
pub use Rattle.telnet_shell.specs.declared.command.Command.TheVariants.{Blank, Conns, Help, Other, Quit, Refuse, Stats, Ticks}
pub use Rattle.telnet_shell.specs.declared.shell.TheConstants.{TELNET_PORT}
unfoldable pub use Rattle.uip_ipv4.specs.Prelude.{head_bytes, head_or_fate}
pub use Rattle.uip_node.proofs.Basics.{choose, not-true}
pub use Rattle.uip_node.proofs.DeliveredBytes.{DeliveredBytes, asked_bytes, on_segment_bytes, on_tick_bytes, page_bytes}
pub use Rattle.uip_node.proofs.Fits.{all_nil}
pub use Rattle.uip_node.proofs.Prelude.{All, AppSpec, AppState, Close, HasBytes, IsByte, IsPaged, IsSnapshot, MayWant, Now, SendsBytes}
pub use Rattle.uip_node.proofs.Prelude.{Snapshot, Want, eqb-true, on_tick}
unfoldable pub use Rattle.uip_node.proofs.Prelude.{fin_acked, fin_waits, for_no_connection, happened, idles, in_established, on_segment}
unfoldable pub use Rattle.uip_node.proofs.Prelude.{opens_in, peer_closes, rests_on, stays_established, ticks_established}
unfoldable pub use Rattle.uip_wire.specs.Prelude.{folded}
pub use Rattle.web_pages.proofs.PageLaws.{keeps_page_laws}
pub use Rattle.web_pages.specs.Prelude.{pages_of, web_spec}
