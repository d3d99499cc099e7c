-- The names that the proofs of this crate cite: of std, of the crates below, and of its own definitions. Declares nothing.
pub use Rattle.app_events.specs.Prelude.{AppSpec, AppState, IsAddr, IsByte, IsPaged, IsU32}
pub use Rattle.app_events.specs.declared.app.App.{Ghosts}
unfoldable pub use Rattle.dns_message.specs.Names.{is_domain}
pub use Rattle.ethernet_arp.proofs.ByteLaws.{ether_brings_bytes}
pub use Rattle.ethernet_arp.specs.Prelude.{Act, Host, ether_medium}
pub use Rattle.ethernet_arp.specs.declared.mac.Mac.{Mac}
pub use Rattle.file_tree.specs.Prelude.{FailsToOpen, FindsInFiles, IsLoaded, KindContent, LacksFile, SiteContent, files_of, site_read}
pub use Rattle.file_tree.specs.declared.load_fault.LoadFault.{LoadFault}
pub use Rattle.line_medium.specs.Prelude.{MediumSpec}
pub use Rattle.line_laws.proofs.Lines.{events_of_line, every_line, line_turns}
pub use Rattle.line_laws.specs.Prelude.{events_among}
pub use Rattle.link_replay.proofs.LossyPeers.{web_peers_arrive}
pub use Rattle.link_replay.proofs.Undisturbed.{as_due}
pub use Rattle.link_replay.specs.Prelude.{WebPeersArrive, EndsWith, IsLoadText, IsReplayText, LacksEither, WroteDue}
pub use Rattle.link_replay.specs.declared.commands.replay_end.ReplayEnd.{ReplayEnd}
pub use Rattle.node_laws.proofs.EveryTraceConforms.{paged_everywhere}
pub use Rattle.node_laws.proofs.Paging.{ActsAs, acts_as_itself, anywhere}
pub use Rattle.node_laws.specs.Prelude.{HasOutputModel, TraceEntry, trace_of}
pub use Rattle.serve_loop.proofs.ByteLaws.{slip_brings_bytes}
pub use Rattle.serve_loop.proofs.RunLaws.{output-append}
pub use Rattle.serve_loop.specs.Prelude.{BringsBytes, IsItem, IsStationed, PrefixWritten, WrittenAtEnd, ServesOver, Station, StationEvent}
pub use Rattle.serve_loop.specs.Prelude.{any_acts, initial_station, output, output_by, output_of_event, slip_medium, station_after}
pub use Rattle.serve_loop.specs.Prelude.{station_after_all, station_events_of_line}
pub use Rattle.site_commands.specs.Prelude.{Due, Ends, end_of}
pub use Rattle.site_commands.specs.declared.site_end.SiteEnd.{SiteEnd}
pub use Rattle.site_commands.specs.declared.site_end.SiteEnd.TheVariants.{NoMemory}
pub use Rattle.site_image.specs.Prelude.{File, is_kind}
pub use Rattle.std.proofs.Common.{Bool, Err, Global, List, None, Ok, Option, Result, Some, String, [], ap, append_assoc, arith, cond, drop}
pub use Rattle.std.proofs.Common.{false, get_or, if◌then◌else◌, inl, inr, length, length-append, length-take, lit<, map, nat_lt, refl}
pub use Rattle.std.proofs.Common.{rules, string_bytes, subst, sym, take, true, ℕ, ◌++◌, ◌+◌, ◌-◌, ◌<◌, ◌^◌, ◌∙◌, ◌∷◌, ◌≡◌, ◌≤◌}
pub use Rattle.std.proofs.KnownBytes.{Consumes-trans}
pub use Rattle.std.proofs.lemmas.Bool.{lt-ltb, ltb-true}
pub use Rattle.std.proofs.lemmas.List.{length-map, take-map}
pub use Rattle.std.proofs.lemmas.List.Elements.{All-map, All-replicate, All-weaker}
pub use Rattle.std.proofs.lemmas.List.Folds.{list_all-map, list_all_at}
pub use Rattle.std.proofs.lemmas.List.Sums.{AllPass-from_list_all}
pub use Rattle.std.proofs.lemmas.Option.{slice_get-map}
pub use Rattle.std.proofs.lemmas.Str.Parse.{IsNumeralModel, numerals_by_value, parse_digits}
pub use Rattle.std.specs.Counts.{IsPrefixLen}
pub use Rattle.std.specs.Io.KnownBytes.{Consumes, IsAtEnd, ReadConsumes}
pub use Rattle.std.specs.List.{All, list_all}
pub use Rattle.std.specs.Option.{option_map_or}
pub use Rattle.std.specs.Prelude.{◌&&◌, ◌⊎◌, bytes_eq, codes, IfOk, IsTrue, option_map, slice_get, ⊤}
pub use Rattle.std.specs.Result.{OkIff, result_ok}
pub use Rattle.std.specs.Str.Parse.{ParsesUnsigned, digits_value}
pub use Rattle.telnet_shell.proofs.DeskLines.{speaks_on_lines}
pub use Rattle.telnet_shell.proofs.TwoApplications.{two_applications}
pub use Rattle.telnet_shell.specs.DeskPorts.{DoesAs}
pub use Rattle.telnet_shell.specs.DeskSpec.{desk_spec, is_served_at}
pub use Rattle.trace.specs.Prelude.{Converts, ReportsLine}
pub use Rattle.trace.specs.declared.slip_end.SlipEnd.{SlipEnd}
pub use Rattle.udp_resolver.specs.Prelude.{Resolves, Streams, StreamsUnfailed}
pub use Rattle.uip_edge.proofs.Breaking.{breaks_prefix, breaks_whole}
pub use Rattle.uip_edge.proofs.Reported.{same_shelf}
pub use Rattle.uip_edge.specs.Prelude.{BreaksOff, Files, LineUnfailed, LineView, Outside, Rose, WorkUnfailed, WorkView, WrittenBy, line_in}
pub use Rattle.uip_edge.specs.Prelude.{line_view, shelf_view, work_in}
pub use Rattle.uip_edge.specs.declared.item.Item.{Item}
pub use Rattle.uip_edge.specs.declared.serve_end.ServeEnd.{ServeEnd}
pub use Rattle.uip_node.proofs.Basics.{eqb-eq}
pub use Rattle.uip_node.proofs.DeliveredBytes.{page_bytes}
pub use Rattle.uip_node.proofs.Steadiness.{steady_of}
pub use Rattle.uip_node.specs.Prelude.{IsSteady, Node, Represents, SendsBytes, initial_node}
pub use Rattle.uip_wire.specs.declared.addr.Addr.{Addr}
pub use Rattle.uipd.specs.Completeness.{CaptureDone, Completes, ImageDone, LacksFor, LineDone, OrShort, ReplayDone, RunIsComplete}
pub use Rattle.uipd.specs.Completeness.{ServingDone}
pub use Rattle.uipd.specs.Output.{app_spec_of, host_at, output_model_of, output_of, output_over, ports_of}
pub use Rattle.uipd.specs.ResolveWords.{Resolving, resolve_words, resolving_of}
pub use Rattle.uipd.specs.Running.{TaskRuns}
pub use Rattle.uipd.specs.Serving.{OutputConforms, RunsBy, ServeRuns, ServesBy, WritesKept}
pub use Rattle.uipd.specs.SiteServing.{IsUndisturbed, SiteServes}
pub use Rattle.uipd.specs.Statuses.{RunsAs, status_of_fault, status_of_replay, status_of_serving, status_of_site, status_of_slip}
pub use Rattle.uipd.specs.ReportedCompleteness.{ResolvingDone, ReportCompletes, ReportIsComplete}
pub use Rattle.uipd.specs.ReportedRunning.{ResolveRuns, ReportedBy, questions_of}
pub use Rattle.uipd.specs.Words.{Captures, Checks, Dumps, Loads, Packs, Pages, PlaysBack, Replays, Serves, ShowsText, Task, Upgrades}
pub use Rattle.uipd.specs.Words.{all_items, back_part, ether_words, has_parts, is_kind_word, kind_word, limited, limits_at, named_file}
pub use Rattle.uipd.specs.Words.{optionally, ends_in_tty, task_of}
pub use Rattle.uipd.specs.declared.status.Status.{Status}
pub use Rattle.uipd.specs.declared.status.Status.TheVariants.{BadWords}
pub use Rattle.uipd.specs.declared.words.Application.{Application}
pub use Rattle.uipd.specs.declared.words.Application.TheVariants.{Desk, Web}
pub use Rattle.uipd.specs.declared.words.LineKind.{LineKind}
pub use Rattle.uipd.specs.declared.words.LineKind.TheVariants.{Ethernet, Serial}
pub use Rattle.uipd.specs.declared.words.ServedLine.{ServedLine}
pub use Rattle.web_pages.proofs.ByteLaws.{made_of_bytes}
pub use Rattle.web_pages.proofs.PageLaws.{keeps_page_laws}
pub use Rattle.web_pages.specs.Prelude.{is_served, no_hits, pages_of, web_spec}
