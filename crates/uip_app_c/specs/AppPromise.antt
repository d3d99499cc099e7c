-- What the peers receive, for any calls on a handle that was just opened.
use Rattle.std.specs.Prelude.{◌≡◌, ◌<◌, ◌==◌, if◌then◌else◌, [], All, length, List, true, ℕ, ⊤}
use Rattle.app_events.specs.Prelude.{IsAddr, IsByte, IsPrefixOf}
use Rattle.tcp_machine.specs.Prelude.{Connection, is_live}
use Rattle.uip_node.specs.Prelude.{connection_in}
use Rattle.ethernet_arp.specs.Prelude.{Act}
use Rattle.serve_loop.specs.Prelude.{Station}
use Rattle.frame_device.specs.Prelude.{InputsFrame, Setup, interface_by, key_by}
use Rattle.frame_device.specs.ProgramCalls.{GoHome, program_calls}
use Rattle.frame_device.specs.ProgramKeeping.{ProgramConforms}
use Rattle.own_app.specs.Prelude.{is_own_port, messages_text, no_message, numbers_of, own_output_model, own_spec}
use Rattle.own_node.specs.Prelude.{HasCaptured, next_message}
use Rattle.own_node.specs.Written.{text_written}
use Rattle.uip_app_c.specs.AppCalls.{AnsweredCall, AppCall, OpensAndProtects, Calls, DidCalls, Listens, OfEachCall, Writes, app_program}
use Rattle.uip_app_c.specs.AppCalls.{first_station, link_of, station_after_call, station_after_calls, undropped}
use Rattle.uip_app_c.specs.Handles.{own_rules}
use Rattle.uip_app_c.specs.Kept.{Kept}

-- A received frame is bytes, and so is the text of a message.
abbrev pub IsCallOfBytes : AppCall → Type 0
IsCallOfBytes (Calls (InputsFrame frame)) = All IsByte frame
IsCallOfBytes (Calls _) = ⊤
IsCallOfBytes (Writes slot taken text last) = All IsByte text
IsCallOfBytes (Listens port) = ⊤

-- ---- what a connection captures

-- A message that was written is the newest capture of its connection after the call. Its text follows the text before.
abbrev pub Captures : Setup → AppCall → Station Act → Type 0
Captures setup (Calls call) s = ⊤
Captures setup (Listens port) s = ⊤
Captures setup (Writes slot taken text last) s =
    HasCaptured (next_message slot taken text last s.node) (connection_in slot s.node)
    (connection_in slot (station_after_call setup (Writes slot taken text last) s).node)

-- The text that C writes in a call to the connection in a slot.
abbrev pub text_in_call : ℕ → AppCall → List ℕ
text_in_call slot (Calls call) = []
text_in_call slot (Listens port) = []
text_in_call slot (Writes at taken text last) = if at == slot then text else []

-- The text that C wrote to the connection in a slot since it was accepted there.
abbrev pub text_written_in : Setup → ℕ → List AppCall → List ℕ
text_written_in setup slot calls =
    text_written (station_after_call setup) (λ (s : Station Act). s.node) text_in_call slot calls (first_station setup) []

-- ---- the law

-- The connection in a slot after all calls.
abbrev pub connection_after : Setup → List AnsweredCall → ℕ → Connection
connection_after setup all slot =
    connection_in slot (station_after_calls setup (program_calls all) (first_station setup)).node

-- The trace of the calls conforms. What is sent in the newest incarnation of a connection is a prefix of the messages that it captured.
-- Each message that was written is captured in its call. For fewer than 2^32 calls, the messages of a connection are what C wrote to it.
-- Each frame with a datagram goes to the hardware address that its next hop taught last.
pub record AppTraceConforms (setup : Setup) (all : List AnsweredCall) : Type 0 where
  pub trace : ProgramConforms app_program own_spec is_own_port (link_of setup) setup.own own_output_model
      (numbers_of 0 no_message) all
  pub sent : (slot : ℕ) (live : is_live (connection_after setup all slot).state ≡ true)
      → IsPrefixOf ((trace.newest slot live).conforms.account 0).stream
      (messages_text (connection_after setup all slot).part.snapshots)
  pub captured : OfEachCall setup (Captures setup) (program_calls all) (first_station setup)
  pub written : length all < 4294967296 → (slot : ℕ)
      → messages_text (connection_after setup all slot).part.snapshots ≡ text_written_in setup slot (program_calls all)
  pub home : length setup.mac.0 ≡ 6
      → GoHome app_program own_spec is_own_port (interface_by setup) (own_rules (key_by setup)) setup.own (program_calls all)
      (first_station setup)

-- So do all calls on a handle that was just opened, and protected or not, without the frames that are dropped, for any frames and texts of
-- bytes.
abbrev pub AppCallsConform : Type 0
AppCallsConform =
    (setup : Setup) → IsAddr setup.own → (all : List AnsweredCall)
    → All IsCallOfBytes (program_calls all)
    → (closed opened old new : Kept) → OpensAndProtects setup closed opened old → DidCalls all old new
    → AppTraceConforms setup (undropped [] all)
