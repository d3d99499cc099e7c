-- Calls on a handle, one after the other, and what the definition of the node and its link gives for them.
use Rattle.std.specs.Prelude.{◌≡◌, ℕ, Bool, List, [], ◌∷◌, false, if◌then◌else◌, map, true, ⊤}
use Rattle.c_calls.specs.Prelude.{HasOne}
use Rattle.app_pair.specs.PairNumbers.{change_own}
use Rattle.ethernet_arp.specs.Prelude.{Act}
use Rattle.file_tree.specs.Prelude.{files_of}
use Rattle.frame_device.specs.Prelude.{CallsSlot, DoesNothing, FrameCall, GuardedLink, InputsFrame, RepresentsStation, guarded_ether}
use Rattle.frame_device.specs.Prelude.{Setup, guard_with, interface_by, key_by}
use Rattle.frame_device.specs.ProgramCalls.{AnsweredBy, DidInTurn, OfEach, Program, after_program_call, after_program_calls}
use Rattle.frame_device.specs.ProgramCalls.{counts_after_program_calls, program_calls, program_frames}
use Rattle.frame_device.specs.contracts.ether.EthernetFrames.TheImpl.{ghosts as ether_link}
use Rattle.guarded_node.specs.Counts.{fresh_guard}
use Rattle.guarded_node.specs.declared.guard.GuardCounts.{GuardCounts}
use Rattle.own_app.specs.Prelude.{with_port, write_message}
use Rattle.own_node.specs.Prelude.{AreAtOpenPorts, can_write_at, next_message_at}
use Rattle.serve_loop.specs.Prelude.{Station, initial_station}
use Rattle.site_image.specs.Prelude.{File}
use Rattle.uip_both_c.specs.BothSpec.{both, both_spec, first_both_numbers, is_both_port, own_in, site_of}
use Rattle.uip_both_c.specs.Handles.{BothAnswers, BothGives, BothWrites, OpensBothAs, ProtectsBoth, both_rules}
use Rattle.uip_both_c.specs.Kept.{BothEther, Kept}
use Rattle.uip_both_c.specs.Ports.{BothListens, BothInputs, is_dropped, ports_of}
use Rattle.uip_device.specs.Prelude.{write_value}
use Rattle.uip_wire.specs.declared.port.TheConstants.{WEB_PORT}

-- `Calls`: a frame is received, or a slot is called. A call that is refused or that reads is `Calls DoesNothing`. `Gives`: a value is set.
-- `Listens`: a port is opened.
pub data BothCall : Type 0 where
  Calls : (call : FrameCall) → BothCall
  Writes : (slot taken : ℕ) (text : List ℕ) (last : Bool) → BothCall
  Gives : (number : ℕ) (text : List ℕ) → BothCall
  Listens : (port : ℕ) → BothCall

abbrev pub AnsweredCall : Type 0
AnsweredCall = AnsweredBy BothCall

-- What a call did, by its clauses.
abbrev pub DidCall : BothCall → Kept → Kept → List ℕ → Type 0
DidCall (Calls DoesNothing) old new handed = (new ≡ old) × (handed ≡ [])
DidCall (Calls (InputsFrame frame)) old new handed = BothInputs frame old new handed
DidCall (Calls (CallsSlot slot)) old new handed = BothAnswers (CallsSlot slot) old new handed
DidCall (Writes slot taken text last) old new handed = BothWrites slot taken text last old new handed
DidCall (Gives number text) old new handed = BothGives number text old new × (handed ≡ [])
DidCall (Listens port) old new handed = BothListens port old new × (handed ≡ [])

abbrev pub DidCalls : List AnsweredCall → Kept → Kept → Type 0
DidCalls all a c = DidInTurn DidCall all a c

-- ---- the open ports

abbrev pub ports_after_call : BothCall → List ℕ → List ℕ
ports_after_call (Listens port) ports = with_port port ports
ports_after_call call ports = ports

abbrev pub ports_after : List BothCall → List ℕ → List ℕ
ports_after [] ports = ports
ports_after (call ∷ calls) ports = ports_after calls (ports_after_call call ports)

-- A frame for a port that is not open is dropped.
abbrev pub call_at : List ℕ → BothCall → BothCall
call_at ports (Calls (InputsFrame frame)) = Calls (if is_dropped ports frame then DoesNothing else InputsFrame frame)
call_at ports call = call

-- The calls, without the frames that are dropped, if these ports are open at first.
abbrev pub undropped : List ℕ → List AnsweredCall → List AnsweredCall
undropped ports [] = []
undropped ports (it ∷ all) =
    record { call = call_at ports it.call; handed = it.handed } ∷ undropped (ports_after_call it.call ports) all

-- ---- by definition

-- The link of a device, with its guard under this key.
abbrev pub link_of : Setup → GuardedLink Act
link_of setup = guarded_ether (interface_by setup) (both_rules (key_by setup))

-- A call that writes a message first puts it in the place of the newest, and then makes the call of the slot. A call that sets a value or
-- opens a port makes no call of the device.
abbrev pub change_by : BothCall → Station Act → List ℕ → List ℕ
change_by (Calls call) s numbers = numbers
change_by (Writes slot taken text last) s numbers =
    change_own true (write_message (next_message_at taken text last (own_in slot s.node))) numbers
change_by (Gives number text) s numbers = change_own false (write_value number text) numbers
change_by (Listens port) s numbers = numbers

abbrev pub frame_call_of : BothCall → FrameCall
frame_call_of (Calls call) = call
frame_call_of (Writes slot taken text last) = CallsSlot slot
frame_call_of (Gives number text) = DoesNothing
frame_call_of (Listens port) = DoesNothing

abbrev pub both_program : Program BothCall Act
both_program = record { change = change_by; makes = frame_call_of }

-- A message was written to a connection that could capture it.
abbrev pub CouldWrite : BothCall → Station Act → Type 0
CouldWrite (Calls call) s = ⊤
CouldWrite (Writes slot taken text last) s = can_write_at taken (own_in slot s.node) ≡ true
CouldWrite (Gives number text) s = ⊤
CouldWrite (Listens port) s = ⊤

module _ (files : List File) (setup : Setup) where
  abbrev pub station_after_call : BothCall → Station Act → Station Act
  station_after_call call s = after_program_call both_program (both_spec files) is_both_port (link_of setup) setup.own call s

  abbrev pub station_after_calls : List BothCall → Station Act → Station Act
  station_after_calls calls s = after_program_calls both_program (both_spec files) is_both_port (link_of setup) setup.own calls s

  -- P holds of each call, and of the station at which it is made.
  abbrev pub OfEachCall : (BothCall → Station Act → Type 0) → List BothCall → Station Act → Type 0
  OfEachCall P calls s = OfEach both_program (both_spec files) is_both_port (link_of setup) setup.own P calls s

-- ---- the law

abbrev pub first_station : List File → Setup → Station Act
first_station files setup = initial_station setup.own (first_both_numbers files)

-- What the guard of a device that was just opened counted after calls.
abbrev pub counts_after_calls : List File → Setup → List BothCall → GuardCounts
counts_after_calls files setup calls =
    counts_after_program_calls both_program (both_spec files) is_both_port (link_of setup) setup.own calls (first_station files setup)
    (fresh_guard (both_rules (key_by setup))).counts

-- The device serves these files and represents this station: an abstract node, and the events of ARP so far. Its guard has the secret, and
-- counted this.
pub record BothAtStation (files : List File) (setup : Setup) (d : BothEther) (s : Station Act) (counts : GuardCounts) : Type 0 where
  pub files_are : files_of (site_of d.node) ≡ files
  pub station : RepresentsStation both ether_link (interface_by setup) (both_spec files) setup.own d s
  pub guard_is : d.guard ≡ guard_with (both_rules (key_by setup)) counts

-- Each call wrote exactly the frame of the definition, or none. Each message was written to a connection that could capture it. The device
-- represents the station after all calls, and its guard counted its verdicts.
pub record IsExact (files : List File) (setup : Setup) (all : List AnsweredCall) (new : Kept) : Type 0 where
  pub frames : map (λ it. it.handed) all
      ≡ program_frames both_program (both_spec files) is_both_port (link_of setup) setup.own (program_calls all)
      (first_station files setup)
  pub could : OfEachCall files setup CouldWrite (program_calls all) (first_station files setup)
  pub represents : HasOne BothEther (λ d. BothAtStation files setup d
      (station_after_calls files setup (program_calls all) (first_station files setup))
      (counts_after_calls files setup (program_calls all))) new

-- The open ports of the device are those that the calls opened. Each connection that is not CLOSED is at one of them, or at that of the
-- pages.
pub record HasOpenPorts (files : List File) (setup : Setup) (all : List AnsweredCall) (new : Kept) : Type 0 where
  pub ports : HasOne BothEther (λ d. ports_of d ≡ ports_after (program_calls all) []) new
  pub connections : AreAtOpenPorts (WEB_PORT ∷ ports_after (program_calls all) [])
      (station_after_calls files setup (program_calls (undropped [] all)) (first_station files setup)).node

-- The handle was opened, and then protected by this secret, or not.
abbrev pub OpensAndProtects : List File → Setup → Kept → Kept → Kept → Type 0
OpensAndProtects files setup closed opened old =
    OpensBothAs files setup.own setup.mac setup.network closed opened × ProtectsBoth setup.secret opened old

-- So is every sequence of calls on a handle that was just opened, and protected or not, without the frames that are dropped.
abbrev pub CallsAreExact : Type 0
CallsAreExact =
    (files : List File) (setup : Setup) (all : List AnsweredCall) (closed opened old new : Kept)
    → OpensAndProtects files setup closed opened old → DidCalls all old new
    → IsExact files setup (undropped [] all) new × HasOpenPorts files setup all new
