-- The names that the proofs of this crate cite: of std, of the crates below, and of its own definitions. Declares nothing.
pub use Rattle.app_events.specs.Prelude.{IsPrefixOf, Snapshot, IsAddr}
pub use Rattle.c_calls.proofs.Handles.{of_kept}
pub use Rattle.c_calls.specs.Prelude.{HasOne}
pub use Rattle.ethernet_arp.specs.Prelude.{Act}
pub use Rattle.frame_device.proofs.ProgramLaws.{IsOfLine, call_few, each_by, each_with, events_of_call, program_goes_home, node_of_call}
pub use Rattle.frame_device.proofs.ProgramLaws.{periodic_events, program_conforms, all_exact}
pub use Rattle.frame_device.proofs.StationLaws.{answered_at, changed_at, guard_by, shared_at}
pub use Rattle.frame_device.specs.FrameCalls.{station_after_frame_call as station_after_frame}
pub use Rattle.frame_device.specs.Prelude.{AnswersFrame, CallsSlot, DoesNothing, FrameCall, GuardedLink, InputsFrame, RepresentsStation}
pub use Rattle.frame_device.specs.Prelude.{ether_frames, guarded_link, output_of_call, IsFrameOfBytes, Makes, acts_before}
pub use Rattle.frame_device.specs.Prelude.{Setup, ether_brings_bytes, interface_by, key_by, station_events_by}
pub use Rattle.frame_device.specs.FrameCalls.{counts_by_call, with_secret}
pub use Rattle.frame_device.specs.ProgramCalls.{DidInTurn, counts_by_program_call, program_calls, before_program_call, program_frame}
pub use Rattle.frame_device.specs.declared.ether.Ethernet.{Ethernet}
pub use Rattle.guarded_node.specs.Counts.{fresh_guard}
pub use Rattle.guarded_node.specs.declared.guard.Guard.{Guard}
pub use Rattle.guarded_node.specs.declared.guard.GuardCounts.{GuardCounts}
pub use Rattle.guarded_node.specs.declared.guard.Rules.{Rules}
pub use Rattle.sip_hash.specs.SipHash.{key_of}
pub use Rattle.raw_box.proofs.Moving.{Opened, opens_well, HeapRow, makes_null_well, gives_parts_well, takes_parts_well}
pub use Rattle.own_app.specs.Prelude.{PlainMessage, is_own_port, own_spec, with_port, with_written, messages_text, no_message, numbers_of}
pub use Rattle.own_app.specs.Prelude.{own_output_model, is_open_port, write_message}
pub use Rattle.own_node.specs.Prelude.{is_for_closed_port, HasCaptured, next_message, with_change, AreAtOpenPorts}
pub use Rattle.serve_loop.specs.Prelude.{Station}
pub use Rattle.std.proofs.Common.{Bool, List, [], ◌∷◌, ap, refl, subst, sym, ℕ, ◌∙◌, ◌≡◌, ◌+◌, ◌<◌, if◌then◌else◌, ◌++◌, length, arith}
pub use Rattle.std.proofs.Common.{drop}
pub use Rattle.std.proofs.lemmas.Bool.{false≢true}
pub use Rattle.std.specs.Prelude.{All, is_some, None, Option, Some, true}
pub use Rattle.uip_app_c.specs.Prelude.{IsFreshOwnEther, OpensAndProtects, ProtectsOwn, own_rules, AnsweredCall, AppCall, Calls}
pub use Rattle.uip_app_c.specs.Prelude.{CallsAreExact, CouldWrite}
pub use Rattle.uip_app_c.specs.Prelude.{DeviceRow, DidCall, DidCalls, IsExact, Kept, Listens, OpensOwn, OwnAtStation, OwnAnswers, OwnEther}
pub use Rattle.uip_app_c.specs.Prelude.{OwnListens}
pub use Rattle.uip_app_c.specs.Prelude.{OwnInputs, OwnWrites, Writes, call_at, first_station, holds, link_of, ports_after, ports_after_call}
pub use Rattle.uip_app_c.specs.Prelude.{ports_of, station_after_call, undropped, AppCallsConform, AppTraceConforms, Captures, IsCallOfBytes}
pub use Rattle.uip_app_c.specs.Prelude.{OfEachCall, app_program, change_by, connection_after, station_after_calls, text_in_call}
pub use Rattle.uip_app_c.specs.declared.held.Held.{Held}
pub use Rattle.uip_node.proofs.Basics.{choose}
pub use Rattle.uip_node.specs.Prelude.{AbstractNode, Represents, Event, Periodic, connection_in, run}
