-- Calls on a handle, one after the other, are exact.
use Rattle.uip_app_c.proofs.Prelude.{AbstractNode, Act, All, AnsweredCall, AnswersFrame, AppCall, AreAtOpenPorts, Bool, Calls}
use Rattle.uip_app_c.proofs.Prelude.{CallsAreExact, CallsSlot, CouldWrite, DidCall, DidCalls, DidInTurn, DoesNothing, FrameCall}
use Rattle.uip_app_c.proofs.Prelude.{GuardCounts, HasOne, InputsFrame, IsExact, IsFreshOwnEther, Kept, List, Listens, None}
use Rattle.uip_app_c.proofs.Prelude.{OpensAndProtects, OpensOwn, Option, OwnAnswers, OwnAtStation, OwnEther, OwnInputs, OwnListens}
use Rattle.uip_app_c.proofs.Prelude.{OwnWrites, PlainMessage, ProtectsOwn, RepresentsStation, Rules, Setup, Some, Station, Writes, []}
use Rattle.uip_app_c.proofs.Prelude.{all_exact, answered_at, ap, app_program, before_program_call, call_at, changed_at, choose}
use Rattle.uip_app_c.proofs.Prelude.{connection_in, counts_by_call, counts_by_program_call, drop, events_of_call, first_station}
use Rattle.uip_app_c.proofs.Prelude.{fresh_guard, guard_by, interface_by, is_for_closed_port, is_open_port, is_own_port, key_by, key_of}
use Rattle.uip_app_c.proofs.Prelude.{link_of, no_message, node_of_call, numbers_of, of_kept, output_of_call, own_rules, own_spec}
use Rattle.uip_app_c.proofs.Prelude.{ports_after, ports_after_call, ports_of, program_calls, program_frame, refl, shared_at}
use Rattle.uip_app_c.proofs.Prelude.{station_after_call, station_after_calls, station_after_frame, subst, sym, undropped, with_port}
use Rattle.uip_app_c.proofs.Prelude.{with_written, write_message, ℕ, ◌∙◌, ◌∷◌, ◌≡◌}
use Rattle.frame_device.proofs.Arrivals.{frame_each, slot_each}
use Rattle.own_node.proofs.OpenPorts.{IsAt, first_at, run_at, stays_open}
use Rattle.own_node.proofs.GuardedPorts.{arriving_at}
use Rattle.guarded_node.proofs.Taken.{guarded_all}
use Rattle.frame_device.specs.contracts.ether.EthernetFrames.TheImpl.{ghosts as ether_link}
use Rattle.own_app.specs.contracts.app.OwnAppApp.TheImpl.{ghosts}

-- ---- the frames that are dropped

-- what a call did, if its frame was not dropped
abbrev pub Did : AppCall → Kept → Kept → List ℕ → Type 0
Did (Calls DoesNothing) old new handed = (new ≡ old) × (handed ≡ [])
Did (Calls call) old new handed = OwnAnswers call old new handed
Did (Writes slot taken text last) old new handed = OwnWrites slot taken text last old new handed
Did (Listens port) old new handed = OwnListens port old new × (handed ≡ [])

abbrev HasPorts : List ℕ → Kept → Type 0
HasPorts ports kept = HasOne OwnEther (λ d. ports_of d ≡ ports) kept

-- the ports of a device that there was
ports_were : (ports : List ℕ) (a : Kept) (x : OwnEther) → HasPorts ports a → a ≡ Some x → ports_of x ≡ ports
ports_were ports a x has was = of_kept (λ (d : OwnEther). ports_of d ≡ ports) has.0 x a has.1 was has.2

inputs_undropped : (ports frame : List ℕ) (a b : Kept) (handed : List ℕ) → HasPorts ports a → OwnInputs frame a b handed
    → Did (call_at ports (Calls (InputsFrame frame))) a b handed × HasPorts ports b
inputs_undropped ports frame a b handed has it =
    let were = ports_were ports a it.before has it.was in
    let same = ap (λ (l : List ℕ). is_for_closed_port l frame) were in
    choose (λ (call : FrameCall). Did (Calls call) a b handed × HasPorts ports b) (is_for_closed_port ports frame) DoesNothing (InputsFrame frame)
    (λ e. (let dropped = it.holds.dropped (same ∙ e) in
    let stays : b ≡ a = it.is ∙ ap (λ (d : OwnEther). Some d) dropped.0 ∙ sym it.was in ((stays, dropped.1), (has.0, stays ∙ has.1, has.2))))
    (λ e. (let answers = it.holds.answers (same ∙ e) in
    (record { before = it.before; after = it.after; was = it.was; is = it.is; holds = answers }, (it.after, it.is, answers.kept ∙ were))))

one_undropped : (ports : List ℕ) (call : AppCall) (a b : Kept) (handed : List ℕ) → HasPorts ports a → DidCall call a b handed
    → Did (call_at ports call) a b handed × HasPorts (ports_after_call call ports) b
one_undropped ports (Calls (InputsFrame frame)) a b handed has it = inputs_undropped ports frame a b handed has it
one_undropped ports (Calls (CallsSlot slot)) a b handed has it = (it, (it.after, it.is, it.holds.kept ∙ ports_were ports a it.before has it.was))
one_undropped ports (Calls DoesNothing) a b handed has it = (it, (has.0, it.0 ∙ has.1, has.2))
one_undropped ports (Writes slot taken text last) a b handed has it =
    (it, (it.after, it.is, it.answers.kept ∙ it.writes.kept ∙ ports_were ports a it.before has it.was))
one_undropped ports (Listens port) a b handed has it =
    (it, (it.0.after, it.0.is, it.0.holds.ports ∙ ap (λ (l : List ℕ). with_port port l) (ports_were ports a it.0.before has it.0.was)))

all_undropped : (ports : List ℕ) (all : List AnsweredCall) (a c : Kept) → HasPorts ports a → DidCalls all a c
    → DidInTurn Did (undropped ports all) a c × HasPorts (ports_after (program_calls all) ports) c
all_undropped ports [] a c has same = (same, subst (λ (k : Kept). HasPorts ports k) same has)
all_undropped ports (it ∷ all) a c has more =
    let one = one_undropped ports it.call a more.0 it.handed has more.1 in
    let others = all_undropped (ports_after_call it.call ports) all more.0 c one.1 more.2 in
    ((more.0, one.0, others.0), others.1)

-- ---- what the calls do

module _ (setup : Setup) where
  abbrev Here : OwnEther → Station Act → GuardCounts → Type 0
  Here d s counts = OwnAtStation setup d s counts

  -- what a call of the device leads to, under the rules of its guard
  answered : (x y : OwnEther) (call : FrameCall) (s : Station Act) (counts : GuardCounts) (handed : List ℕ) → Here x s counts
      → AnswersFrame ghosts ether_link call x y handed
      → Here y (station_after_frame own_spec is_own_port (link_of setup) call s) (counts_by_call (link_of setup) is_own_port s.node call counts)
      × (handed ≡ output_of_call own_spec is_own_port (link_of setup) setup.own call s)
  answered x y call s counts handed here it =
      let from = answered_at ghosts ether_link (interface_by setup) own_spec setup.own (own_rules (key_by setup)) counts x y call s handed
      here.guard_is here.station it in
      (record { station = from.station; guard_is = from.guard_is }, from.wrote)

  abbrev counts_at : AppCall → Station Act → GuardCounts → GuardCounts
  counts_at call s counts = counts_by_program_call app_program own_spec is_own_port (link_of setup) setup.own call s counts

  abbrev sent_at : AppCall → Station Act → List ℕ
  sent_at call s = program_frame app_program own_spec is_own_port (link_of setup) setup.own call s

  -- what one call does, at a station that the device represents
  record Step (call : AppCall) (s : Station Act) (counts : GuardCounts) (b : Kept) (handed : List ℕ) : Type 0 where
    after : OwnEther
    is : b ≡ Some after
    here : Here after (station_after_call setup call s) (counts_at call s counts)
    wrote : handed ≡ sent_at call s
    could : CouldWrite call s

  by_call : (call : FrameCall) (d : OwnEther) (s : Station Act) (counts : GuardCounts) (a b : Kept) (handed : List ℕ) → a ≡ Some d → Here d s counts
      → OwnAnswers call a b handed → Step (Calls call) s counts b handed
  by_call call d s counts a b handed is here it =
      let from = answered it.before it.after call s counts handed (of_kept (λ (x : OwnEther). Here x s counts) d it.before a is it.was here) it.holds in
      record { after = it.after; is = it.is; here = from.0; wrote = from.1; could = tt }

  by_write : (slot taken : ℕ) (text : List ℕ) (last : Bool) (d : OwnEther) (s : Station Act) (counts : GuardCounts) (a b : Kept)
      (handed : List ℕ) → a ≡ Some d → Here d s counts
      → OwnWrites slot taken text last a b handed → Step (Writes slot taken text last) s counts b handed
  by_write slot taken text last d s counts a b handed is here it =
      let at : Here it.before s counts = of_kept (λ (x : OwnEther). Here x s counts) d it.before a is it.was here in
      let changed = changed_at ghosts ether_link (interface_by setup) own_spec setup.own (write_message it.writes.message) it.before it.between s
      it.link it.writes.kept it.writes.changes at.station in
      let named = subst (λ (m : PlainMessage). Here it.between (record { acts = s.acts; node = with_written m s.node }) counts)
      (it.writes.next s.node at.station.represented.represented) record { station = changed; guard_is = it.guarded ∙ at.guard_is } in
      let from = answered it.between it.after (CallsSlot slot) (before_program_call app_program own_spec is_own_port
      (link_of setup) setup.own (Writes slot taken text last) s) counts handed named it.answers in
      record { after = it.after; is = it.is; here = from.0; wrote = from.1; could = it.could s.node at.station.represented.represented }

  -- a port was opened, which no connection sees
  opened_here : (d x : OwnEther) (s : Station Act) (counts : GuardCounts) → Here d s counts
      → Here (record d { node = record (d.node) { shared = record (d.node.shared) { ports = x.node.shared.ports } } }) s counts
  opened_here d x s counts here = record {
    guard_is = here.guard_is;
    station = shared_at ghosts ether_link (interface_by setup) own_spec setup.own d (record d.node.shared { ports = x.node.shared.ports }) s
        refl refl (λ a p represents. represents) here.station;
  }

  by_listen : (port : ℕ) (d : OwnEther) (s : Station Act) (counts : GuardCounts) (a b : Kept) (handed : List ℕ) → a ≡ Some d
      → Here d s counts → OwnListens port a b → handed ≡ []
      → Step (Listens port) s counts b handed
  by_listen port d s counts a b handed is here it none =
      let at : Here it.before s counts = of_kept (λ (x : OwnEther). Here x s counts) d it.before a is it.was here in
      record {
        after = it.after;
        is = it.is;
        here = subst (λ (x : OwnEther). Here x s counts) (sym it.holds.rest) (opened_here it.before it.after s counts at);
        wrote = none;
        could = tt;
      }

  one : (call : AppCall) (d : OwnEther) (s : Station Act) (counts : GuardCounts) (a b : Kept) (handed : List ℕ) → a ≡ Some d
      → Here d s counts → Did call a b handed → Step call s counts b handed
  one (Calls (InputsFrame frame)) d s counts a b handed is here it = by_call (InputsFrame frame) d s counts a b handed is here it
  one (Calls (CallsSlot slot)) d s counts a b handed is here it = by_call (CallsSlot slot) d s counts a b handed is here it
  one (Calls DoesNothing) d s counts a b handed is here it = record { after = d; is = it.0 ∙ is; here = here; wrote = it.1; could = tt }
  one (Writes slot taken text last) d s counts a b handed is here it = by_write slot taken text last d s counts a b handed is here it
  one (Listens port) d s counts a b handed is here it = by_listen port d s counts a b handed is here it.0 it.1

  -- ---- the ports of the connections

  abbrev AtPorts : List ℕ → Station Act → Type 0
  AtPorts ports s = AreAtOpenPorts ports s.node

  abbrev after : AppCall → Station Act → Station Act
  after call s = station_after_call setup call s

  -- a call that makes this call of the device
  makes_at : (ports : List ℕ) (call : AppCall) (s : Station Act) → AtPorts ports s
      → All (IsAt (is_open_port ports)) (events_of_call app_program own_spec is_own_port (link_of setup) setup.own call s)
      → AtPorts ports (after call s)
  makes_at ports call s each are =
      subst (λ (n : AbstractNode). AreAtOpenPorts ports n) (sym (node_of_call app_program own_spec is_own_port (link_of setup) setup.own call s))
      (run_at own_spec is_own_port (is_open_port ports) (events_of_call app_program own_spec is_own_port (link_of setup) setup.own call s)
      (before_program_call app_program own_spec is_own_port (link_of setup) setup.own call s).node each are)

  call_at_ports : (ports : List ℕ) (call : AppCall) (s : Station Act) → AtPorts ports s → AtPorts (ports_after_call call ports) (after (call_at ports call) s)
  call_at_ports ports (Calls (InputsFrame frame)) s each =
      choose (λ (call : FrameCall). AtPorts ports (after (Calls call) s)) (is_for_closed_port ports frame) DoesNothing (InputsFrame frame) (λ e. each)
      (λ e. makes_at ports (Calls (InputsFrame frame)) s each
      (frame_each (interface_by setup) (own_rules (key_by setup)) is_own_port s.node (IsAt (is_open_port ports)) frame
      (λ kind. guarded_all (IsAt (is_open_port ports)) (own_rules (key_by setup)) is_own_port s.node (drop 14 frame)
      (arriving_at (key_by setup) s.node.addr ports frame kind e) (λ slot within live. each slot live))))
  call_at_ports ports (Calls (CallsSlot slot)) s each =
      makes_at ports (Calls (CallsSlot slot)) s each (slot_each (interface_by setup) (own_rules (key_by setup)) is_own_port s.node
      (IsAt (is_open_port ports)) slot tt)
  call_at_ports ports (Calls DoesNothing) s each = each
  call_at_ports ports (Writes slot taken text last) s each =
      makes_at ports (Writes slot taken text last) s each
      (slot_each (interface_by setup) (own_rules (key_by setup)) is_own_port (before_program_call app_program own_spec is_own_port
      (link_of setup) setup.own (Writes slot taken text last) s).node
      (IsAt (is_open_port ports)) slot tt)
  call_at_ports ports (Listens port) s each = λ slot live. stays_open port (connection_in slot s.node).sockets.own_port.0 ports (each slot live)

  pub calls_at_ports : (ports : List ℕ) (all : List AnsweredCall) (s : Station Act) → AtPorts ports s
      → AtPorts (ports_after (program_calls all) ports) (station_after_calls setup (program_calls (undropped ports all)) s)
  calls_at_ports ports [] s each = each
  calls_at_ports ports (it ∷ all) s each = calls_at_ports (ports_after_call it.call ports) all (after (call_at ports it.call) s)
      (call_at_ports ports it.call s each)

  abbrev KeptHere : Kept → Station Act → GuardCounts → Type 0
  KeptHere kept s counts = HasOne OwnEther (λ d. Here d s counts) kept

  one_call : (call : AppCall) (s : Station Act) (counts : GuardCounts) (a b : Kept) (handed : List ℕ) → KeptHere a s counts → Did call a b handed
      → KeptHere b (station_after_call setup call s) (counts_at call s counts) × (handed ≡ sent_at call s) × CouldWrite call s
  one_call call s counts a b handed here did =
      let step = one call here.0 s counts a b handed here.1 here.2 did in ((step.after, step.is, step.here), step.wrote, step.could)

-- ---- from the start

-- a handle that was just opened, and protected or not
record Opened (setup : Setup) (old : Kept) : Type 0 where
  device : OwnEther
  is : old ≡ Some device
  here : Here setup device (first_station setup) (fresh_guard (own_rules None)).counts
  ports : ports_of device ≡ []

begins_by : (setup : Setup) (secret : Option (List ℕ)) (closed opened old : Kept)
    → OpensOwn setup.own.0 setup.mac.0 setup.network.mask.0 setup.network.router.0 closed opened → ProtectsOwn secret opened old
    → Opened (record setup { secret = secret }) old
begins_by setup None closed opened old opens protects =
    let fresh = opens.1 in
    record {
      device = fresh.0;
      is = protects ∙ fresh.1;
      here = record {
        station = fresh.2.fresh.represented;
        guard_is = guard_by fresh.0.guard (own_rules None) (fresh_guard (own_rules None)).counts fresh.2.fresh.rules_are fresh.2.fresh.counts_are;
      };
      ports = fresh.2.ports;
    }
begins_by setup (Some secret) closed opened old opens protects =
    let fresh = opens.1 in
    let set = protects.holds.set in
    let x = of_kept (IsFreshOwnEther setup.own setup.mac setup.network) fresh.0 protects.before opened fresh.1 protects.was fresh.2 in
    record {
      device = protects.after;
      is = protects.is;
      here = record {
        station = subst (λ (y : OwnEther). RepresentsStation ghosts ether_link (interface_by setup) own_spec setup.own y (first_station setup))
            (sym set) x.fresh.represented;
        guard_is = guard_by protects.after.guard (own_rules (Some (key_of secret))) (fresh_guard (own_rules None)).counts
            (ap (λ (y : OwnEther). y.guard.rules) set ∙ ap (λ (r : Rules). record r { key = Some (key_of secret) }) x.fresh.rules_are)
            (ap (λ (y : OwnEther). y.guard.counts) set ∙ x.fresh.counts_are);
      };
      ports = ap (λ (y : OwnEther). ports_of y) set ∙ x.ports;
    }

begins : (setup : Setup) (closed opened old : Kept) → OpensAndProtects setup closed opened old → Opened setup old
begins setup closed opened old it = begins_by setup setup.secret closed opened old it.0 it.1

pub undropped_exact : (setup : Setup) (all : List AnsweredCall) (closed opened old new : Kept)
    → OpensAndProtects setup closed opened old → DidInTurn Did all old new → IsExact setup all new
undropped_exact setup all closed opened old new start did =
    let o = begins setup closed opened old start in
    let exact = all_exact app_program own_spec is_own_port (link_of setup) setup.own (KeptHere setup) CouldWrite Did
    (one_call setup) all (first_station setup) (fresh_guard (own_rules None)).counts old new
    (o.device, o.is, o.here) did in
    record { frames = exact.frames; could = exact.each; represents = exact.here }

-- without the frames that are dropped, from the start
pub did_undropped : (setup : Setup) (all : List AnsweredCall) (closed opened old new : Kept)
    → OpensAndProtects setup closed opened old → DidCalls all old new
    → DidInTurn Did (undropped [] all) old new × HasOne OwnEther (λ d. ports_of d ≡ ports_after (program_calls all) []) new
did_undropped setup all closed opened old new start did =
    let o = begins setup closed opened old start in all_undropped [] all old new (o.device, o.is, o.ports) did

pub calls_exact : CallsAreExact
calls_exact setup all closed opened old new start did =
    let undropped_did = did_undropped setup all closed opened old new start did in (
      undropped_exact setup (undropped [] all) closed opened old new start undropped_did.0,
      record {
        ports = undropped_did.1;
        connections = calls_at_ports setup [] all (first_station setup) (first_at (is_open_port []) setup.own (numbers_of 0 no_message));
      },
    )
