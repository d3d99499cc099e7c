-- The names that the proofs of this crate cite: of std, of the crates below, and of its own definitions. Declares nothing.
pub use Rattle.app_events.specs.Prelude.{AppState, AppSpec, IsAddr, IsPrefixOf, IsU32, Snapshot}
pub use Rattle.app_events.specs.declared.row.Row.{Row}
pub use Rattle.app_pair.specs.Lemmas.NumberLaws.{first_back, first_kept, others_stay, own_u32, pair_u32, second_back, with_own_u32}
pub use Rattle.app_pair.specs.PairNumbers.{change_own, numbers_of_first, pair_numbers, with_own, own_numbers}
pub use Rattle.c_calls.proofs.Handles.{of_kept}
pub use Rattle.c_calls.specs.Prelude.{HasOne, flag_of}
pub use Rattle.c_pages.specs.Prelude.{ReportsRow}
pub use Rattle.device_values.specs.Prelude.{value_given, words, words_bytes, words_short}
pub use Rattle.ethernet_arp.specs.Prelude.{Act}
pub use Rattle.ethernet_arp.specs.declared.mac.Mac.{Mac}
pub use Rattle.file_tree.specs.Prelude.{AreApart, files_of}
pub use Rattle.file_tree.specs.declared.file_id.FileId.{FileId}
pub use Rattle.frame_device.proofs.ProgramLaws.{IsOfLine, at_end, call_few, each_by, each_with, events_of_call, program_goes_home}
pub use Rattle.frame_device.proofs.ProgramLaws.{node_of_call, periodic_events, program_conforms, all_exact}
pub use Rattle.frame_device.proofs.StationLaws.{answered_at, changed_at, guard_by, shared_at}
pub use Rattle.frame_device.specs.FrameCalls.{station_after_frame_call as station_after_frame}
pub use Rattle.guarded_node.specs.Counts.{fresh_guard}
pub use Rattle.guarded_node.specs.declared.guard.Guard.{Guard}
pub use Rattle.guarded_node.specs.declared.guard.GuardCounts.{GuardCounts}
pub use Rattle.guarded_node.specs.declared.guard.Rules.{Rules}
pub use Rattle.sip_hash.specs.SipHash.{key_of}
pub use Rattle.frame_device.specs.Prelude.{AnswersFrame, CallsSlot, DoesNothing, FrameCall, GuardedLink, InputsFrame, RepresentsStation}
pub use Rattle.frame_device.specs.Prelude.{ether_frames, guarded_link, output_of_call, IsFrameOfBytes, Makes, acts_before}
pub use Rattle.frame_device.specs.Prelude.{ether_brings_bytes, interface_at, station_events_by, ChangesNumbers, IsFreshFrameDevice, Setup}
pub use Rattle.frame_device.specs.Prelude.{interface_by, key_by}
pub use Rattle.frame_device.specs.FrameCalls.{counts_by_call, with_secret}
pub use Rattle.frame_device.specs.ProgramCalls.{DidInTurn, counts_by_program_call, program_calls, before_program_call, program_frame}
pub use Rattle.frame_device.specs.declared.ether.Ethernet.{Ethernet}
pub use Rattle.frame_device.specs.declared.network.Network.{Network}
pub use Rattle.httpd.proofs.Finding.{found_place}
pub use Rattle.httpd.specs.Web.{WebContent}
pub use Rattle.raw_box.proofs.Moving.{Opened, opens_well, HeapRow, makes_null_well, gives_parts_well, takes_parts_well}
pub use Rattle.own_app.specs.Prelude.{with_port, write_message, PlainMessage, is_own_port, messages_text, no_message, numbers_of}
pub use Rattle.own_app.specs.Prelude.{own_output_model, own_spec, is_open_port, message_of}
pub use Rattle.own_app.specs.declared.shared.OwnShared.{OwnShared}
pub use Rattle.own_node.specs.Prelude.{with_change, HasCaptured, next_message_at, own_connection, AreAtOpenPorts}
pub use Rattle.serve_loop.specs.Prelude.{Station}
pub use Rattle.site_image.specs.Prelude.{File}
pub use Rattle.std.proofs.Common.{[], ◌∷◌, ◌≡◌, ◌∙◌, ℕ, ◌+◌, ◌<◌, Bool, false, List, ◌++◌, drop, length, map, sym, ap, subst, arith, eqb}
pub use Rattle.std.proofs.Common.{None, Option, Some, get_or, option_map, refl}
pub use Rattle.std.proofs.lemmas.Bool.{false≢true}
pub use Rattle.std.proofs.lemmas.Grind.{get_or_default_zero}
pub use Rattle.std.proofs.lemmas.List.{get_or_append_left, length-map}
pub use Rattle.std.specs.Prelude.{if◌then◌else◌, All, is_some, true}
pub use Rattle.uip_both_c.specs.Prelude.{IsFreshBothEther, OpensAndProtects, ProtectsBoth, both_rules, AnsweredCall, BothAnswers, BothApps}
pub use Rattle.uip_both_c.specs.Prelude.{BothAtStation, BothCall, BothEther, BothGives, BothListens, BothNode, BothShared, BothInputs}
pub use Rattle.uip_both_c.specs.Prelude.{BothWrites, Calls, CallsAreExact, CouldWrite, DeviceRow, DidCall, DidCalls, Gives, IsExact}
pub use Rattle.uip_both_c.specs.Prelude.{IsOpenedBoth, Kept, Listens, OpensBothAs, Writes, both, both_spec, call_at, first_both_numbers}
pub use Rattle.uip_both_c.specs.Prelude.{first_station, holds, is_dropped, ports_after, ports_after_call, ports_of, site_of}
pub use Rattle.uip_both_c.specs.Prelude.{station_after_call, undropped, with_ports_of, BothCallsConform, BothTraceConforms, Captures}
pub use Rattle.uip_both_c.specs.Prelude.{IsCallOfBytes, OfEachCall, OpensBoth, both_model, both_program, change_by, connection_after}
pub use Rattle.uip_both_c.specs.Prelude.{is_both_port, link_of, own_in, station_after_calls, text_in_call}
pub use Rattle.uip_both_c.specs.declared.held.Held.{Held}
pub use Rattle.uip_device.proofs.WebLaws.{hits_at, written_after, first_words, written_words}
pub use Rattle.uip_device.specs.Prelude.{ChangesNode, IsFirstShared, IsOfImage, ReadsQuery, first_numbers, query_of, write_value}
pub use Rattle.uip_device.specs.Prelude.{value_pages, value_spec}
pub use Rattle.uip_device.specs.Query.{query_for}
pub use Rattle.uip_device.specs.declared.device_web.DeviceWeb.{DeviceWeb}
pub use Rattle.uip_node.proofs.Basics.{choose}
pub use Rattle.uip_node.specs.Prelude.{AbstractNode, Represents, Event, Periodic, connection_in, run}
pub use Rattle.uip_wire.specs.declared.addr.Addr.{Addr}
pub use Rattle.web_pages.specs.Prelude.{hits_of, place_of}
