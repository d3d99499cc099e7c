-- The statements of the laws of any sequence of calls from C. Each speaks of a handle that was just opened. The calls may be refused, and
-- values may be set between them.
use Rattle.std.specs.Prelude.{◌≡◌, [], All, List, None, Option, flat_map, map, ℕ}
use Rattle.app_events.specs.Prelude.{IsAddr, IsByte}
use Rattle.site_image.specs.Prelude.{File}
use Rattle.device_values.specs.Prelude.{word_calls}
use Rattle.file_tree.specs.Prelude.{HasSoundScripts, IsLoaded, SiteContent, files_of}
use Rattle.web_pages.specs.Prelude.{is_served}
use Rattle.uip_edge.specs.declared.item.Item.{Item}
use Rattle.uip_wire.specs.declared.addr.Addr.{Addr}
use Rattle.ethernet_arp.specs.declared.mac.Mac.{Mac}
use Rattle.frame_device.specs.declared.network.Network.{Network}
use Rattle.sip_hash.specs.declared.key.Key.{Key}
use Rattle.node_laws.specs.Prelude.{TraceConforms, at_every_port}
use Rattle.guard_laws.specs.Lens.{lens}
use Rattle.guard_laws.specs.Shifted.{entry_on_wire}
use Rattle.guard_laws.specs.Through.{ArrivesOnWire, wire_trace}
use Rattle.frame_device.specs.Prelude.{AnsweredFrame, FramesConform, IsFrameOfBytes, frame_moves_of}
use Rattle.uip_device.specs.Prelude.{Answered, Bring, CallsConform, IsOfBytes, LineIsServed, first_numbers, line_handed, moves_of}
use Rattle.uip_device.specs.Prelude.{value_pages, value_spec, web_rules, write_value}
use Rattle.uip_c.specs.EtherWebs.{web_link, web_stations}
use Rattle.uip_c.specs.FrameHandles.{DidFrames, IsEtherReady}
use Rattle.uip_c.specs.Handles.{DidAll, IsReady, lefts_in}
use Rattle.uip_c.specs.Kept.{IsLine, Kept}
use Rattle.uip_c.specs.OnWire.{comings_of}
use Rattle.uip_node.specs.Prelude.{initial_node}

-- P holds of every good site, at every address.
abbrev pub OfSites : (SiteContent → Addr → Type 0) → Type 0
OfSites P =
    (site : SiteContent) → IsLoaded site → All IsByte site.image → HasSoundScripts word_calls (files_of site)
    → (own : Addr) → IsAddr own → P site own

-- Calls conform to the pages of these files, and so does their trace in the numbers of the wire. The page of each cooperating peer arrives,
-- whatever the guard drops of what they bring.
pub record ConformOnWire (files : List File) (own : Addr) (key : Option Key) (all : List Answered) (lefts : List (List ℕ)) : Type 0 where
  pub calls : CallsConform (value_spec files) (value_pages files) is_served write_value (first_numbers files) (web_rules key) own all lefts
  pub wire : TraceConforms (at_every_port (value_pages files)) is_served
      (map (entry_on_wire (lens key own)) (flat_map (λ it. it.turns) calls.moves))
  pub arrives : ArrivesOnWire (value_spec files) (value_pages files) own
      (wire_trace (web_rules key) (value_spec files) is_served (comings_of write_value [] (moves_of all))
      (initial_node own (first_numbers files)))

-- All calls conform to the pages of the site, for any bytes that they bring.
abbrev pub CallsFromCConform : Type 0
CallsFromCConform = OfSites (λ site own.
    (key : Option Key) (all : List Answered) → All IsOfBytes (moves_of all) → (old new : Kept)
    → IsReady (files_of site) own key old → (did : DidAll all old new)
    → ConformOnWire (files_of site) own key all (lefts_in all old new did))

-- If the calls alone bring the items of a line at a pace, in order, no value is set and no output is pending at the end, the output is what
-- the guarded node sends for these items. If there is no secret, and the guard neither drops nor gives up anything, it is what the server
-- of a serial line writes for them (`LineIsServed`).
abbrev pub LineFromCIsServed : Type 0
LineFromCIsServed =
    (files : List File) (own : Addr) (key : Option Key) (pace : ℕ) (items : List Item) (all : List Answered) (old new : Kept)
    → IsReady files own key old → Bring pace items (moves_of all) → DidAll all old new
    → IsLine (λ d. d.left ≡ None) new
    → LineIsServed (value_spec files) is_served (first_numbers files) own (web_rules key) pace items (line_handed all)

-- All calls over Ethernet conform to the pages of the site, for any frames of bytes.
abbrev pub FramesFromCConform : Type 0
FramesFromCConform = OfSites (λ site own.
    (mac : Mac) (network : Network) (key : Option Key) (all : List AnsweredFrame) → All IsFrameOfBytes (frame_moves_of all) → (old new : Kept)
    → IsEtherReady (files_of site) own mac network key old → DidFrames all old new
    → FramesConform (web_link own mac network key) (value_spec (files_of site)) (at_every_port (value_pages (files_of site)))
    is_served own (web_stations (files_of site) own mac network key (frame_moves_of all)) all)
