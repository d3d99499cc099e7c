-- The names that the proofs of this crate cite: of std, of the crates below, and of its own definitions. Declares nothing.
pub use Rattle.app_events.specs.Prelude.{IsAddr, IsByte}
pub use Rattle.app_events.specs.declared.row.Row.{Row}
pub use Rattle.c_calls.specs.Prelude.{flag_of}
pub use Rattle.c_pages.specs.Prelude.{ReportsRow}
pub use Rattle.device_values.specs.Prelude.{word_calls, words, words_bytes, words_short}
pub use Rattle.ethernet_arp.specs.declared.mac.Mac.{Mac}
pub use Rattle.file_tree.specs.Prelude.{HasSoundScripts, IsLoaded, SiteContent, files_of}
pub use Rattle.frame_device.proofs.KeepLaws.{keeps_frames}
pub use Rattle.frame_device.proofs.MoveLaws.{device_represents, frames_exact, same_kept}
pub use Rattle.frame_device.specs.Prelude.{AnsweredFrame, AnswersAllFrames, AnswersFrame, AnswersFrameMove, CallsSlot, ChangesNumbers}
pub use Rattle.frame_device.specs.Prelude.{DoesNothing, FrameCall, FrameMove, FramesConform, Gives, InputsFrame, Interface, IsFrameOfBytes}
pub use Rattle.frame_device.specs.Prelude.{IsFreshFrameDevice, Makes, ether_brings_bytes, ether_frames, frame_moves_of, handed_of}
pub use Rattle.frame_device.specs.Prelude.{interface_at}
pub use Rattle.frame_device.specs.declared.network.Network.{Network}
pub use Rattle.sip_hash.specs.declared.key.Key.{Key}
pub use Rattle.raw_box.proofs.Moving.{Opened, opens_well, gives_parts_well, HeapRow, makes_null_well, takes_parts_well, PartsRow}
pub use Rattle.raw_box.proofs.Moving.{converts_well, parts_opened}
pub use Rattle.node_laws.specs.Prelude.{at_every_port}
pub use Rattle.serve_loop.specs.Prelude.{initial_station}
pub use Rattle.site_image.specs.Prelude.{File}
pub use Rattle.std.proofs.Common.{Bool, List, Option, [], ap, refl, subst, sym, ℕ, ◌∙◌, ◌∷◌, ◌≡◌}
pub use Rattle.std.proofs.lemmas.Bool.{false≢true}
pub use Rattle.std.specs.Box.Ownership.{box_owns}
pub use Rattle.std.specs.Prelude.{if◌then◌else◌, All, false, None, Some, true}
pub use Rattle.std.specs.contracts.impls.GlobalAllocator.TheImpl.{ghosts}
pub use Rattle.uip_c.specs.Prelude.{IsEtherReady, web_link, web_stations, Did, DidAll, DidFrame, DidFrames, EtherAnswers, EtherRepresents}
pub use Rattle.uip_c.specs.Prelude.{EtherRow, EtherWeb, HandleAnswers, HandleGives, ConformOnWire, HasAbstractNode, IsEther, IsLine}
pub use Rattle.uip_c.specs.Prelude.{IsOpenedEther, IsReady, Kept, LineRow, NoDevice, OnEther, OnLine, OpensAs, OpensEtherAs, holds}
pub use Rattle.uip_c.specs.Prelude.{is_on_ether, is_on_line, kept_of, left_text_in, lefts_in, node_in, node_of, web_frames_sent}
pub use Rattle.uip_c.specs.Prelude.{web_station_after}
pub use Rattle.uip_c.specs.declared.handle.AnyDevice.{AnyDevice}
pub use Rattle.uip_c.specs.declared.handle.AnyDevice.TheVariants.{Ether, Line}
pub use Rattle.uip_c.specs.declared.held.Held.{Held}
pub use Rattle.uip_device.proofs.AnswerLaws.{answers_nothing, datagrams_reported, line_served, line_view, node_represents}
pub use Rattle.uip_device.proofs.KeepLaws.{keeps_calls}
pub use Rattle.uip_device.proofs.WebLaws.{first_words, written_words}
pub use Rattle.uip_device.specs.Prelude.{Answered, Answers, AnswersAll, AnswersMove, Bring, Call, Calls, CallsConform, CallsForDatagram}
pub use Rattle.uip_device.specs.Prelude.{Changes, ChangesNode, DeviceRepresents, Drains, Feeds, Inputs, IsFirstShared, IsOfBytes, IsOfImage}
pub use Rattle.uip_device.specs.Prelude.{IsSoundWebDevice, Move, NodeRepresents, WebDevice, WebNode, datagrams_handed, first_numbers}
pub use Rattle.uip_device.specs.Prelude.{left_text_of, lefts_of, line_handed, moves_of, LineIsServed, value_pages, value_spec}
pub use Rattle.uip_device.specs.Prelude.{web_datagrams_sent, web_line_sent, web_node_after, web_rules, write_value}
pub use Rattle.uip_device.specs.declared.device_web.DeviceWeb.{DeviceWeb}
pub use Rattle.uip_edge.specs.declared.item.Item.{Item}
pub use Rattle.uip_node.specs.Prelude.{AbstractNode}
pub use Rattle.uip_wire.specs.declared.addr.Addr.{Addr}
pub use Rattle.web_pages.proofs.ByteLaws.{made_of_bytes_by}
pub use Rattle.web_pages.proofs.PageLaws.{keeps_page_laws_by}
pub use Rattle.web_pages.specs.Prelude.{hits_of, is_served}
