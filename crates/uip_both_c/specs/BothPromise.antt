-- What the peers receive, for any calls on a handle that was just opened.
use Rattle.std.specs.Prelude.{◌≡◌, ◌<◌, ◌≤◌, ◌==◌, if◌then◌else◌, [], All, length, List, true, ℕ, ⊤}
use Rattle.app_events.specs.Prelude.{IsAddr, IsByte, IsPrefixOf}
use Rattle.ethernet_arp.specs.Prelude.{Act}
use Rattle.file_tree.specs.Prelude.{files_of}
use Rattle.frame_device.specs.Prelude.{InputsFrame, Setup, interface_by, key_by}
use Rattle.frame_device.specs.ProgramCalls.{GoHome, program_calls}
use Rattle.frame_device.specs.ProgramKeeping.{ProgramConforms}
use Rattle.node_laws.specs.Prelude.{OutputModel, at_every_port}
use Rattle.own_app.specs.Prelude.{is_own_port, messages_text, own_output_model}
use Rattle.own_node.specs.Prelude.{HasCaptured, next_message_at, own_connection}
use Rattle.own_node.specs.Written.{text_written}
use Rattle.pair_laws.specs.PairLines.{pair_model}
use Rattle.serve_loop.specs.Prelude.{Station}
use Rattle.site_image.specs.Prelude.{File}
use Rattle.tcp_machine.specs.Prelude.{Connection, is_live}
use Rattle.uip_both_c.specs.BothCalls.{AnsweredCall, BothCall, Calls, DidCalls, Gives, Listens, OfEachCall, Writes, both_program}
use Rattle.uip_both_c.specs.BothCalls.{first_station, link_of, station_after_call, station_after_calls, undropped}
use Rattle.uip_both_c.specs.BothSpec.{both_spec, first_both_numbers, is_both_port, own_in}
use Rattle.uip_both_c.specs.Handles.{ProtectsBoth, both_rules}
use Rattle.uip_both_c.specs.Kept.{Kept}
use Rattle.uip_both_c.specs.Opening.{OpensBoth}
use Rattle.uip_device.specs.Prelude.{value_pages}
use Rattle.uip_node.specs.Prelude.{connection_in}

-- A received frame is bytes, and so are the text of a message and a value, which has at most 32.
abbrev pub IsCallOfBytes : BothCall → Type 0
IsCallOfBytes (Calls (InputsFrame frame)) = All IsByte frame
IsCallOfBytes (Calls _) = ⊤
IsCallOfBytes (Writes slot taken text last) = All IsByte text
IsCallOfBytes (Gives number text) = (length text ≤ 32) × All IsByte text
IsCallOfBytes (Listens port) = ⊤

-- What determines the output at each port: at the ports of the program's application its messages, at port 80 the pages of these files.
abbrev pub both_model : List File → ℕ → OutputModel
both_model files = pair_model is_own_port (at_every_port (value_pages files)) own_output_model

-- The text that the program writes in a call to the connection in a slot.
abbrev pub text_in_call : ℕ → BothCall → List ℕ
text_in_call slot (Calls call) = []
text_in_call slot (Writes at taken text last) = if at == slot then text else []
text_in_call slot (Gives number text) = []
text_in_call slot (Listens port) = []

module _ (files : List File) (setup : Setup) where
  -- ---- what a connection captures

  -- A message that was written is the newest capture of its connection after the call. Its text follows the text before.
  abbrev pub Captures : BothCall → Station Act → Type 0
  Captures (Calls call) s = ⊤
  Captures (Writes slot taken text last) s =
      HasCaptured (next_message_at taken text last (own_in slot s.node)) (own_connection (connection_in slot s.node))
      (own_connection (connection_in slot (station_after_call files setup (Writes slot taken text last) s).node))
  Captures (Gives number text) s = ⊤
  Captures (Listens port) s = ⊤

  -- The text that the program wrote to the connection in a slot since it was accepted there.
  abbrev pub text_written_in : ℕ → List BothCall → List ℕ
  text_written_in slot calls =
      text_written (station_after_call files setup) (λ (s : Station Act). s.node) text_in_call slot calls
      (first_station files setup) []

-- ---- the law

-- The connection in a slot after all calls.
abbrev pub connection_after : List File → Setup → List AnsweredCall → ℕ → Connection
connection_after files setup all slot =
    connection_in slot (station_after_calls files setup (program_calls all) (first_station files setup)).node

-- The trace of the calls conforms: at port 80 to the pages of these files, at the program's ports to its messages. There, what is sent in
-- the newest incarnation of a connection is a prefix of the messages that it captured. Each message that was written is captured in its
-- call. For fewer than 2^32 calls, the messages of a connection are what the program wrote to it. Each frame with a datagram goes to the
-- hardware address that its next hop taught last.
pub record BothTraceConforms (files : List File) (setup : Setup) (all : List AnsweredCall) : Type 0 where
  pub trace : ProgramConforms both_program (both_spec files) is_both_port (link_of setup) setup.own (both_model files)
      (first_both_numbers files) all
  pub sent : (slot : ℕ) (live : is_live (connection_after files setup all slot).state ≡ true)
      → is_own_port (connection_after files setup all slot).sockets.own_port.0 ≡ true
      → IsPrefixOf ((trace.newest slot live).conforms.account 0).stream
      (messages_text (own_connection (connection_after files setup all slot)).part.snapshots)
  pub captured : OfEachCall files setup (Captures files setup) (program_calls all) (first_station files setup)
  pub written : length all < 4294967296 → (slot : ℕ)
      → is_own_port (connection_after files setup all slot).sockets.own_port.0 ≡ true
      → messages_text (own_connection (connection_after files setup all slot)).part.snapshots
      ≡ text_written_in files setup slot (program_calls all)
  pub home : length setup.mac.0 ≡ 6
      → GoHome both_program (both_spec files) is_both_port (interface_by setup) (both_rules (key_by setup)) setup.own (program_calls all)
      (first_station files setup)

-- So do all calls on a handle that was just opened with a good image, and protected or not, without the frames that are dropped, for any
-- frames and texts of bytes.
abbrev pub BothCallsConform : Type 0
BothCallsConform =
    (image : List ℕ) (setup : Setup) → IsAddr setup.own → (all : List AnsweredCall) → All IsCallOfBytes (program_calls all)
    → (closed opened old new : Kept)
    → (opens : OpensBoth image setup.own.0 setup.mac.0 setup.network.mask.0 setup.network.router.0 closed opened)
    → ProtectsBoth setup.secret opened old → DidCalls all old new
    → BothTraceConforms (files_of opens.site) setup (undropped [] all)
