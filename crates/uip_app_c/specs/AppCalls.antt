-- Calls on a handle, one after the other, and what the definition of the node and its link gives for them.
use Rattle.std.specs.Prelude.{◌≡◌, ℕ, Bool, List, [], ◌∷◌, if◌then◌else◌, map, true, ⊤}
use Rattle.c_calls.specs.Prelude.{HasOne}
use Rattle.ethernet_arp.specs.Prelude.{Act}
use Rattle.serve_loop.specs.Prelude.{Station, initial_station}
use Rattle.frame_device.specs.Prelude.{CallsSlot, DoesNothing, FrameCall, GuardedLink, InputsFrame, RepresentsStation, guarded_ether}
use Rattle.frame_device.specs.Prelude.{Setup, guard_with, interface_by, key_by}
use Rattle.frame_device.specs.ProgramCalls.{AnsweredBy, DidInTurn, OfEach, Program, after_program_call, after_program_calls}
use Rattle.frame_device.specs.ProgramCalls.{counts_after_program_calls, program_calls, program_frames}
use Rattle.frame_device.specs.contracts.ether.EthernetFrames.TheImpl.{ghosts as ether_link}
use Rattle.guarded_node.specs.Counts.{fresh_guard}
use Rattle.guarded_node.specs.declared.guard.GuardCounts.{GuardCounts}
use Rattle.own_app.specs.Prelude.{is_own_port, no_message, numbers_of, own_spec, with_port, write_message}
use Rattle.own_app.specs.contracts.app.OwnAppApp.TheImpl.{ghosts}
use Rattle.own_node.specs.Prelude.{AreAtOpenPorts, can_write_in, is_for_closed_port, next_message}
use Rattle.uip_app_c.specs.Handles.{OpensOwn, OwnAnswers, OwnWrites, ProtectsOwn, own_rules}
use Rattle.uip_app_c.specs.Kept.{Kept, OwnEther}
use Rattle.uip_app_c.specs.Ports.{OwnListens, OwnInputs, ports_of}

-- `Calls`: a frame is received, or a slot is called. A call that is refused or that reads is `Calls DoesNothing`. `Listens`: a port is
-- opened.
pub data AppCall : Type 0 where
  Calls : (call : FrameCall) → AppCall
  Writes : (slot taken : ℕ) (text : List ℕ) (last : Bool) → AppCall
  Listens : (port : ℕ) → AppCall

abbrev pub AnsweredCall : Type 0
AnsweredCall = AnsweredBy AppCall

-- What a call did, by its clauses.
abbrev pub DidCall : AppCall → Kept → Kept → List ℕ → Type 0
DidCall (Calls DoesNothing) old new handed = (new ≡ old) × (handed ≡ [])
DidCall (Calls (InputsFrame frame)) old new handed = OwnInputs frame old new handed
DidCall (Calls (CallsSlot slot)) old new handed = OwnAnswers (CallsSlot slot) old new handed
DidCall (Writes slot taken text last) old new handed = OwnWrites slot taken text last old new handed
DidCall (Listens port) old new handed = OwnListens port old new × (handed ≡ [])

abbrev pub DidCalls : List AnsweredCall → Kept → Kept → Type 0
DidCalls all a c = DidInTurn DidCall all a c

-- ---- the open ports

abbrev pub ports_after_call : AppCall → List ℕ → List ℕ
ports_after_call (Listens port) ports = with_port port ports
ports_after_call call ports = ports

abbrev pub ports_after : List AppCall → List ℕ → List ℕ
ports_after [] ports = ports
ports_after (call ∷ calls) ports = ports_after calls (ports_after_call call ports)

-- A frame for a port that is not open is dropped.
abbrev pub call_at : List ℕ → AppCall → AppCall
call_at ports (Calls (InputsFrame frame)) = Calls (if is_for_closed_port ports frame then DoesNothing else InputsFrame frame)
call_at ports call = call

-- The calls, without the frames that are dropped, if these ports are open at first.
abbrev pub undropped : List ℕ → List AnsweredCall → List AnsweredCall
undropped ports [] = []
undropped ports (it ∷ all) =
    record { call = call_at ports it.call; handed = it.handed } ∷ undropped (ports_after_call it.call ports) all

-- ---- by definition

-- The link of a device, with its guard under this key.
abbrev pub link_of : Setup → GuardedLink Act
link_of setup = guarded_ether (interface_by setup) (own_rules (key_by setup))

-- A call that writes a message first puts it in the place of the newest, and then makes the call of the slot. A call that opens a port
-- makes no call of the device.
abbrev pub change_by : AppCall → Station Act → List ℕ → List ℕ
change_by (Calls call) s numbers = numbers
change_by (Writes slot taken text last) s numbers = write_message (next_message slot taken text last s.node) numbers
change_by (Listens port) s numbers = numbers

abbrev pub frame_call_of : AppCall → FrameCall
frame_call_of (Calls call) = call
frame_call_of (Writes slot taken text last) = CallsSlot slot
frame_call_of (Listens port) = DoesNothing

abbrev pub app_program : Program AppCall Act
app_program = record { change = change_by; makes = frame_call_of }

abbrev pub station_after_call : Setup → AppCall → Station Act → Station Act
station_after_call setup call s = after_program_call app_program own_spec is_own_port (link_of setup) setup.own call s

abbrev pub station_after_calls : Setup → List AppCall → Station Act → Station Act
station_after_calls setup calls s = after_program_calls app_program own_spec is_own_port (link_of setup) setup.own calls s

-- P holds of each call, and of the station at which it is made.
abbrev pub OfEachCall : Setup → (AppCall → Station Act → Type 0) → List AppCall → Station Act → Type 0
OfEachCall setup P calls s = OfEach app_program own_spec is_own_port (link_of setup) setup.own P calls s

-- A message was written to a connection that could capture it.
abbrev pub CouldWrite : AppCall → Station Act → Type 0
CouldWrite (Calls call) s = ⊤
CouldWrite (Writes slot taken text last) s = can_write_in slot taken s.node ≡ true
CouldWrite (Listens port) s = ⊤

-- ---- the law

abbrev pub first_station : Setup → Station Act
first_station setup = initial_station setup.own (numbers_of 0 no_message)

-- What the guard of a device that was just opened counted after calls.
abbrev pub counts_after_calls : Setup → List AppCall → GuardCounts
counts_after_calls setup calls =
    counts_after_program_calls app_program own_spec is_own_port (link_of setup) setup.own calls (first_station setup)
    (fresh_guard (own_rules (key_by setup))).counts

-- The device represents this station: an abstract node, and the events of ARP so far. Its guard has the secret, and counted this.
pub record OwnAtStation (setup : Setup) (d : OwnEther) (s : Station Act) (counts : GuardCounts) : Type 0 where
  pub station : RepresentsStation ghosts ether_link (interface_by setup) own_spec setup.own d s
  pub guard_is : d.guard ≡ guard_with (own_rules (key_by setup)) counts

-- Each call wrote exactly the frame of the definition, or none. Each message was written to a connection that could capture it. The device
-- represents the station after all calls, and its guard counted its verdicts.
pub record IsExact (setup : Setup) (all : List AnsweredCall) (new : Kept) : Type 0 where
  pub frames : map (λ it. it.handed) all
      ≡ program_frames app_program own_spec is_own_port (link_of setup) setup.own (program_calls all) (first_station setup)
  pub could : OfEachCall setup CouldWrite (program_calls all) (first_station setup)
  pub represents : HasOne OwnEther (λ d. OwnAtStation setup d (station_after_calls setup (program_calls all) (first_station setup))
      (counts_after_calls setup (program_calls all))) new

-- The open ports of the device are those that the calls opened. Each connection that is not CLOSED is at one of them.
pub record HasOpenPorts (setup : Setup) (all : List AnsweredCall) (new : Kept) : Type 0 where
  pub ports : HasOne OwnEther (λ d. ports_of d ≡ ports_after (program_calls all) []) new
  pub connections : AreAtOpenPorts (ports_after (program_calls all) [])
      (station_after_calls setup (program_calls (undropped [] all)) (first_station setup)).node

-- The handle was opened, and then protected by this secret, or not.
abbrev pub OpensAndProtects : Setup → Kept → Kept → Kept → Type 0
OpensAndProtects setup closed opened old =
    OpensOwn setup.own.0 setup.mac.0 setup.network.mask.0 setup.network.router.0 closed opened × ProtectsOwn setup.secret opened old

-- So is every sequence of calls on a handle that was just opened, and protected or not, without the frames that are dropped.
abbrev pub CallsAreExact : Type 0
CallsAreExact =
    (setup : Setup) (all : List AnsweredCall) (closed opened old new : Kept)
    → OpensAndProtects setup closed opened old → DidCalls all old new
    → IsExact setup (undropped [] all) new × HasOpenPorts setup all new
