-- Calls on a handle, one after the other, are exact.
use Rattle.uip_both_c.proofs.Prelude.{AbstractNode, Act, All, AnsweredCall, AnswersFrame, AppState, AreAtOpenPorts, Bool, BothAnswers}
use Rattle.uip_both_c.proofs.Prelude.{BothApps, BothAtStation, BothCall, BothEther, BothGives, BothInputs, BothListens, BothWrites, Calls}
use Rattle.uip_both_c.proofs.Prelude.{CallsAreExact, CallsSlot, CouldWrite, DidCall, DidCalls, DidInTurn, DoesNothing, File, FrameCall}
use Rattle.uip_both_c.proofs.Prelude.{Gives, GuardCounts, HasOne, InputsFrame, IsExact, IsFreshBothEther, Kept, List, Listens, None}
use Rattle.uip_both_c.proofs.Prelude.{OpensAndProtects, OpensBothAs, Option, PlainMessage, ProtectsBoth, Rules, Setup, Some, Station}
use Rattle.uip_both_c.proofs.Prelude.{Writes, [], all_exact, answered_at, ap, before_program_call, both, both_program, both_rules}
use Rattle.uip_both_c.proofs.Prelude.{both_spec, call_at, change_own, changed_at, choose, connection_in, counts_by_call}
use Rattle.uip_both_c.proofs.Prelude.{counts_by_program_call, drop, eqb, events_of_call, files_of, first_both_numbers, first_station}
use Rattle.uip_both_c.proofs.Prelude.{fresh_guard, guard_by, interface_by, is_both_port, is_dropped, is_open_port, key_by, key_of}
use Rattle.uip_both_c.proofs.Prelude.{link_of, node_of_call, of_kept, output_of_call, ports_after, ports_after_call, ports_of}
use Rattle.uip_both_c.proofs.Prelude.{program_calls, program_frame, refl, shared_at, site_of, station_after_call, station_after_calls}
use Rattle.uip_both_c.proofs.Prelude.{station_after_frame, subst, sym, true, undropped, with_change, with_port, with_ports_of}
use Rattle.uip_both_c.proofs.Prelude.{with_secret, write_message, ℕ, ◌∙◌, ◌∷◌, ◌≡◌}
use Rattle.app_pair.specs.declared.pair.AppPair.TheVariants as pair
use Rattle.frame_device.proofs.Arrivals.{frame_each, slot_each}
use Rattle.own_node.proofs.OpenPorts.{IsAt, first_at, or_more, run_at, stays_open}
use Rattle.own_node.proofs.GuardedPorts.{arriving_at}
use Rattle.guarded_node.proofs.Taken.{guarded_all}
use Rattle.uip_wire.specs.declared.port.TheConstants.{WEB_PORT}
use Rattle.frame_device.specs.contracts.ether.EthernetFrames.TheImpl.{ghosts as ether_link}

-- ---- the frames that are dropped

-- what a call did, if its frame was not dropped
abbrev pub Did : BothCall → Kept → Kept → List ℕ → Type 0
Did (Calls DoesNothing) old new handed = (new ≡ old) × (handed ≡ [])
Did (Calls call) old new handed = BothAnswers call old new handed
Did (Writes slot taken text last) old new handed = BothWrites slot taken text last old new handed
Did (Gives number text) old new handed = BothGives number text old new × (handed ≡ [])
Did (Listens port) old new handed = BothListens port old new × (handed ≡ [])

abbrev HasPorts : List ℕ → Kept → Type 0
HasPorts ports kept = HasOne BothEther (λ d. ports_of d ≡ ports) kept

-- the ports of a device that there was
ports_were : (ports : List ℕ) (a : Kept) (x : BothEther) → HasPorts ports a → a ≡ Some x → ports_of x ≡ ports
ports_were ports a x has was = of_kept (λ (d : BothEther). ports_of d ≡ ports) has.0 x a has.1 was has.2

-- no call but that which opens a port changes them
ports_stay : (d x : BothEther) → both.config x.node.shared ≡ both.config d.node.shared → ports_of x ≡ ports_of d
ports_stay d x kept = ap (λ (k : both.Config). k.1) kept

inputs_undropped : (ports frame : List ℕ) (a b : Kept) (handed : List ℕ) → HasPorts ports a → BothInputs frame a b handed
    → Did (call_at ports (Calls (InputsFrame frame))) a b handed × HasPorts ports b
inputs_undropped ports frame a b handed has it =
    let were = ports_were ports a it.before has it.was in
    let same = ap (λ (l : List ℕ). is_dropped l frame) were in
    choose (λ (call : FrameCall). Did (Calls call) a b handed × HasPorts ports b) (is_dropped ports frame) DoesNothing (InputsFrame frame)
    (λ e. (let dropped = it.holds.dropped (same ∙ e) in
    let stays : b ≡ a = it.is ∙ ap (λ (d : BothEther). Some d) dropped.0 ∙ sym it.was in ((stays, dropped.1), (has.0, stays ∙ has.1, has.2))))
    (λ e. (let answers = it.holds.answers (same ∙ e) in (
      record { before = it.before; after = it.after; was = it.was; is = it.is; holds = answers },
      (it.after, it.is, ports_stay it.before it.after answers.kept ∙ were),
    )))

one_undropped : (ports : List ℕ) (call : BothCall) (a b : Kept) (handed : List ℕ) → HasPorts ports a → DidCall call a b handed
    → Did (call_at ports call) a b handed × HasPorts (ports_after_call call ports) b
one_undropped ports (Calls (InputsFrame frame)) a b handed has it = inputs_undropped ports frame a b handed has it
one_undropped ports (Calls (CallsSlot slot)) a b handed has it =
    (it, (it.after, it.is, ports_stay it.before it.after it.holds.kept ∙ ports_were ports a it.before has it.was))
one_undropped ports (Calls DoesNothing) a b handed has it = (it, (has.0, it.0 ∙ has.1, has.2))
one_undropped ports (Writes slot taken text last) a b handed has it = (
  it,
  (
    it.after,
    it.is,
    ports_stay it.between it.after it.answers.kept ∙ ports_stay it.before it.between it.writes.kept
        ∙ ports_were ports a it.before has it.was,
  ),
)
one_undropped ports (Gives number text) a b handed has it =
    (it, (it.0.after, it.0.is, ports_stay it.0.before it.0.after it.0.holds.kept ∙ ports_were ports a it.0.before has it.0.was))
one_undropped ports (Listens port) a b handed has it =
    (it, (it.0.after, it.0.is, it.0.holds.ports ∙ ap (λ (l : List ℕ). with_port port l) (ports_were ports a it.0.before has it.0.was)))

all_undropped : (ports : List ℕ) (all : List AnsweredCall) (a c : Kept) → HasPorts ports a → DidCalls all a c
    → DidInTurn Did (undropped ports all) a c × HasPorts (ports_after (program_calls all) ports) c
all_undropped ports [] a c has same = (same, subst (λ (k : Kept). HasPorts ports k) same has)
all_undropped ports (it ∷ all) a c has more =
    let one = one_undropped ports it.call a more.0 it.handed has more.1 in
    let others = all_undropped (ports_after_call it.call ports) all more.0 c one.1 more.2 in
    ((more.0, one.0, others.0), others.1)

-- ---- a port is opened

-- which no connection sees
pub part_with_ports : (a : BothApps) (k : both.Config) (ports : List ℕ) (p : AppState) → both.represents a k p → both.represents a (k.0, ports) p
part_with_ports (pair.First a) k ports p r = r
part_with_ports (pair.Second b) k ports p r = record { port = r.port; own = r.own }

-- ---- what the calls do

module _ (files : List File) (setup : Setup) where
  abbrev Here : BothEther → Station Act → GuardCounts → Type 0
  Here d s counts = BothAtStation files setup d s counts

  abbrev counts_at : BothCall → Station Act → GuardCounts → GuardCounts
  counts_at call s counts = counts_by_program_call both_program (both_spec files) is_both_port (link_of setup) setup.own call s counts

  abbrev sent_at : BothCall → Station Act → List ℕ
  sent_at call s = program_frame both_program (both_spec files) is_both_port (link_of setup) setup.own call s

  -- what one call does, at a station that the device represents
  record Step (call : BothCall) (s : Station Act) (counts : GuardCounts) (b : Kept) (handed : List ℕ) : Type 0 where
    after : BothEther
    is : b ≡ Some after
    here : Here after (station_after_call files setup call s) (counts_at call s counts)
    wrote : handed ≡ sent_at call s
    could : CouldWrite call s

  -- the site stays
  files_stay : (d x : BothEther) → both.config x.node.shared ≡ both.config d.node.shared → files_of (site_of d.node) ≡ files → files_of (site_of x.node) ≡ files
  files_stay d x kept is = ap (λ (k : both.Config). files_of k.0) kept ∙ is

  -- what a call of the device leads to, under the rules of its guard
  answered : (x y : BothEther) (call : FrameCall) (s : Station Act) (counts : GuardCounts) (handed : List ℕ) → Here x s counts
      → AnswersFrame both ether_link call x y handed
      → Here y (station_after_frame (both_spec files) is_both_port (link_of setup) call s)
      (counts_by_call (link_of setup) is_both_port s.node call counts)
      × (handed ≡ output_of_call (both_spec files) is_both_port (link_of setup) setup.own call s)
  answered x y call s counts handed here it =
      let from = answered_at both ether_link (interface_by setup) (both_spec files) setup.own (both_rules (key_by setup)) counts x y call s handed
      here.guard_is here.station it in
      (record { files_are = files_stay x y it.kept here.files_are; station = from.station; guard_is = from.guard_is }, from.wrote)

  by_call : (call : FrameCall) (d : BothEther) (s : Station Act) (counts : GuardCounts) (a b : Kept) (handed : List ℕ) → a ≡ Some d → Here d s counts
      → BothAnswers call a b handed → Step (Calls call) s counts b handed
  by_call call d s counts a b handed is here it =
      let from = answered it.before it.after call s counts handed
      (of_kept (λ (x : BothEther). Here x s counts) d it.before a is it.was here) it.holds in
      record { after = it.after; is = it.is; here = from.0; wrote = from.1; could = tt }

  by_write : (slot taken : ℕ) (text : List ℕ) (last : Bool) (d : BothEther) (s : Station Act) (counts : GuardCounts) (a b : Kept)
      (handed : List ℕ) → a ≡ Some d → Here d s counts
      → BothWrites slot taken text last a b handed → Step (Writes slot taken text last) s counts b handed
  by_write slot taken text last d s counts a b handed is here it =
      let at : Here it.before s counts = of_kept (λ (x : BothEther). Here x s counts) d it.before a is it.was here in
      let changed = changed_at both ether_link (interface_by setup) (both_spec files) setup.own (change_own true (write_message it.writes.message))
      it.before it.between s it.link it.writes.kept it.writes.changes at.station in
      let between : Here it.between (record { acts = s.acts; node = with_change (change_own true (write_message it.writes.message)) s.node }) counts = record {
        files_are = files_stay it.before it.between it.writes.kept at.files_are;
        station = changed;
        guard_is = it.guarded ∙ at.guard_is;
      } in
      let named = subst (λ (m : PlainMessage). Here it.between (record { acts = s.acts; node = with_change (change_own true (write_message m)) s.node }) counts)
      (it.writes.next s.node at.station.represented.represented) between in
      let from = answered it.between it.after (CallsSlot slot) (before_program_call both_program (both_spec files) is_both_port
      (link_of setup) setup.own (Writes slot taken text last) s) counts handed named it.answers in
      record { after = it.after; is = it.is; here = from.0; wrote = from.1; could = it.could s.node at.station.represented.represented }

  by_value : (number : ℕ) (text : List ℕ) (d : BothEther) (s : Station Act) (counts : GuardCounts) (a b : Kept) (handed : List ℕ) → a ≡ Some d → Here d s counts
      → BothGives number text a b → handed ≡ []
      → Step (Gives number text) s counts b handed
  by_value number text d s counts a b handed is here it none =
      let at : Here it.before s counts = of_kept (λ (x : BothEther). Here x s counts) d it.before a is it.was here in
      record {
        after = it.after;
        is = it.is;
        here = record {
          files_are = files_stay it.before it.after it.holds.kept at.files_are;
          station = it.holds.each (interface_by setup) (both_spec files) setup.own s at.station;
          guard_is = it.holds.guard ∙ at.guard_is;
        };
        wrote = none;
        could = tt;
      }

  opened_here : (d x : BothEther) (s : Station Act) (counts : GuardCounts) → Here d s counts → Here (with_ports_of x d) s counts
  opened_here d x s counts here = record {
    files_are = here.files_are;
    guard_is = here.guard_is;
    station = shared_at both ether_link (interface_by setup) (both_spec files) setup.own d
        (record d.node.shared { second = record d.node.shared.second { ports = x.node.shared.second.ports } }) s refl refl
        (λ a p represents. part_with_ports a (both.config d.node.shared) (ports_of x) p represents) here.station;
  }

  by_listen : (port : ℕ) (d : BothEther) (s : Station Act) (counts : GuardCounts) (a b : Kept) (handed : List ℕ) → a ≡ Some d
      → Here d s counts → BothListens port a b → handed ≡ []
      → Step (Listens port) s counts b handed
  by_listen port d s counts a b handed is here it none =
      let at : Here it.before s counts = of_kept (λ (x : BothEther). Here x s counts) d it.before a is it.was here in
      record {
        after = it.after;
        is = it.is;
        here = subst (λ (x : BothEther). Here x s counts) (sym it.holds.rest) (opened_here it.before it.after s counts at);
        wrote = none;
        could = tt;
      }

  one : (call : BothCall) (d : BothEther) (s : Station Act) (counts : GuardCounts) (a b : Kept) (handed : List ℕ) → a ≡ Some d
      → Here d s counts → Did call a b handed → Step call s counts b handed
  one (Calls (InputsFrame frame)) d s counts a b handed is here it = by_call (InputsFrame frame) d s counts a b handed is here it
  one (Calls (CallsSlot slot)) d s counts a b handed is here it = by_call (CallsSlot slot) d s counts a b handed is here it
  one (Calls DoesNothing) d s counts a b handed is here it = record { after = d; is = it.0 ∙ is; here = here; wrote = it.1; could = tt }
  one (Writes slot taken text last) d s counts a b handed is here it = by_write slot taken text last d s counts a b handed is here it
  one (Gives number text) d s counts a b handed is here it = by_value number text d s counts a b handed is here it.0 it.1
  one (Listens port) d s counts a b handed is here it = by_listen port d s counts a b handed is here it.0 it.1

  -- ---- the ports of the connections

  abbrev AtPorts : List ℕ → Station Act → Type 0
  AtPorts ports s = AreAtOpenPorts (WEB_PORT ∷ ports) s.node

  abbrev after : BothCall → Station Act → Station Act
  after call s = station_after_call files setup call s

  -- a call that makes this call of the device
  makes_at : (ports : List ℕ) (call : BothCall) (s : Station Act) → AtPorts ports s
      → All (IsAt (is_open_port (WEB_PORT ∷ ports))) (events_of_call both_program (both_spec files) is_both_port
      (link_of setup) setup.own call s) → AtPorts ports (after call s)
  makes_at ports call s each are =
      subst (λ (n : AbstractNode). AreAtOpenPorts (WEB_PORT ∷ ports) n)
      (sym (node_of_call both_program (both_spec files) is_both_port (link_of setup) setup.own call s))
      (run_at (both_spec files) is_both_port (is_open_port (WEB_PORT ∷ ports)) (events_of_call both_program (both_spec files) is_both_port
      (link_of setup) setup.own call s)
      (before_program_call both_program (both_spec files) is_both_port (link_of setup) setup.own call s).node each are)

  more_open : (port p : ℕ) (ports : List ℕ) → is_open_port (WEB_PORT ∷ ports) p ≡ true → is_open_port (WEB_PORT ∷ with_port port ports) p ≡ true
  more_open port p ports e = or_more (eqb WEB_PORT p) (is_open_port ports p) (is_open_port (with_port port ports) p) (stays_open port p ports) e

  call_at_ports : (ports : List ℕ) (call : BothCall) (s : Station Act) → AtPorts ports s → AtPorts (ports_after_call call ports) (after (call_at ports call) s)
  call_at_ports ports (Calls (InputsFrame frame)) s each =
      choose (λ (call : FrameCall). AtPorts ports (after (Calls call) s)) (is_dropped ports frame) DoesNothing (InputsFrame frame) (λ e. each)
      (λ e. makes_at ports (Calls (InputsFrame frame)) s each
      (frame_each (interface_by setup) (both_rules (key_by setup)) is_both_port s.node (IsAt (is_open_port (WEB_PORT ∷ ports))) frame
      (λ kind. guarded_all (IsAt (is_open_port (WEB_PORT ∷ ports))) (both_rules (key_by setup)) is_both_port s.node (drop 14 frame)
      (arriving_at (key_by setup) s.node.addr (WEB_PORT ∷ ports) frame kind e) (λ slot within live. each slot live))))
  call_at_ports ports (Calls (CallsSlot slot)) s each =
      makes_at ports (Calls (CallsSlot slot)) s each (slot_each (interface_by setup) (both_rules (key_by setup)) is_both_port s.node
      (IsAt (is_open_port (WEB_PORT ∷ ports))) slot tt)
  call_at_ports ports (Calls DoesNothing) s each = each
  call_at_ports ports (Writes slot taken text last) s each =
      makes_at ports (Writes slot taken text last) s each
      (slot_each (interface_by setup) (both_rules (key_by setup)) is_both_port (before_program_call both_program (both_spec files)
      is_both_port (link_of setup) setup.own (Writes slot taken text last) s).node
      (IsAt (is_open_port (WEB_PORT ∷ ports))) slot tt)
  call_at_ports ports (Gives number text) s each = each
  call_at_ports ports (Listens port) s each = λ slot live. more_open port (connection_in slot s.node).sockets.own_port.0 ports (each slot live)

  pub calls_at_ports : (ports : List ℕ) (all : List AnsweredCall) (s : Station Act) → AtPorts ports s
      → AtPorts (ports_after (program_calls all) ports) (station_after_calls files setup (program_calls (undropped ports all)) s)
  calls_at_ports ports [] s each = each
  calls_at_ports ports (it ∷ all) s each = calls_at_ports (ports_after_call it.call ports) all (after (call_at ports it.call) s)
      (call_at_ports ports it.call s each)

  abbrev KeptHere : Kept → Station Act → GuardCounts → Type 0
  KeptHere kept s counts = HasOne BothEther (λ d. Here d s counts) kept

  one_call : (call : BothCall) (s : Station Act) (counts : GuardCounts) (a b : Kept) (handed : List ℕ) → KeptHere a s counts → Did call a b handed
      → KeptHere b (station_after_call files setup call s) (counts_at call s counts) × (handed ≡ sent_at call s) × CouldWrite call s
  one_call call s counts a b handed here did =
      let step = one call here.0 s counts a b handed here.1 here.2 did in ((step.after, step.is, step.here), step.wrote, step.could)

-- ---- from the start

-- a handle that was just opened, and protected or not
record Opened (files : List File) (setup : Setup) (old : Kept) : Type 0 where
  device : BothEther
  is : old ≡ Some device
  here : Here files setup device (first_station files setup) (fresh_guard (both_rules None)).counts
  ports : ports_of device ≡ []

begins_by : (files : List File) (setup : Setup) (secret : Option (List ℕ)) (closed opened old : Kept)
    → OpensBothAs files setup.own setup.mac setup.network closed opened → ProtectsBoth secret opened old
    → Opened files (record setup { secret = secret }) old
begins_by files setup None closed opened old opens protects =
    let fresh = opens.1 in
    record {
      device = fresh.0;
      is = protects ∙ fresh.1;
      here = record {
        files_are = fresh.2.files_are;
        station = fresh.2.fresh.represented;
        guard_is = guard_by fresh.0.guard (both_rules None) (fresh_guard (both_rules None)).counts fresh.2.fresh.rules_are
            fresh.2.fresh.counts_are;
      };
      ports = fresh.2.ports;
    }
begins_by files setup (Some secret) closed opened old opens protects =
    let fresh = opens.1 in
    let set = protects.holds.set in
    let x = of_kept (IsFreshBothEther files setup.own setup.mac setup.network) fresh.0 protects.before opened fresh.1 protects.was fresh.2 in
    record {
      device = protects.after;
      is = protects.is;
      here = subst (λ (y : BothEther). BothAtStation files (record setup { secret = Some secret }) y (first_station files setup)
          (fresh_guard (both_rules None)).counts) (sym set) record {
            files_are = x.files_are;
            station = x.fresh.represented;
            guard_is = guard_by (with_secret (key_of secret) protects.before).guard (both_rules (Some (key_of secret)))
                (fresh_guard (both_rules None)).counts (ap (λ (r : Rules). record r { key = Some (key_of secret) }) x.fresh.rules_are)
                x.fresh.counts_are;
          };
      ports = ap (λ (y : BothEther). ports_of y) set ∙ x.ports;
    }

begins : (files : List File) (setup : Setup) (closed opened old : Kept) → OpensAndProtects files setup closed opened old
    → Opened files setup old
begins files setup closed opened old it = begins_by files setup setup.secret closed opened old it.0 it.1

pub undropped_exact : (files : List File) (setup : Setup) (all : List AnsweredCall)
    (closed opened old new : Kept)
    → OpensAndProtects files setup closed opened old → DidInTurn Did all old new → IsExact files setup all new
undropped_exact files setup all closed opened old new start did =
    let o = begins files setup closed opened old start in
    let exact = all_exact both_program (both_spec files) is_both_port (link_of setup) setup.own (KeptHere files setup)
    CouldWrite Did (one_call files setup) all (first_station files setup) (fresh_guard (both_rules None)).counts old new
    (o.device, o.is, o.here) did in
    record { frames = exact.frames; could = exact.each; represents = exact.here }

-- without the frames that are dropped, from the start
pub did_undropped : (files : List File) (setup : Setup) (all : List AnsweredCall)
    (closed opened old new : Kept)
    → OpensAndProtects files setup closed opened old → DidCalls all old new
    → DidInTurn Did (undropped [] all) old new × HasOne BothEther (λ d. ports_of d ≡ ports_after (program_calls all) []) new
did_undropped files setup all closed opened old new start did =
    let o = begins files setup closed opened old start in all_undropped [] all old new (o.device, o.is, o.ports) did

pub calls_exact : CallsAreExact
calls_exact files setup all closed opened old new start did =
    let undropped_did = did_undropped files setup all closed opened old new start did in (
      undropped_exact files setup (undropped [] all) closed opened old new start undropped_did.0,
      record {
        ports = undropped_did.1;
        connections = calls_at_ports files setup [] all (first_station files setup)
            (first_at (is_open_port (WEB_PORT ∷ [])) setup.own (first_both_numbers files));
      },
    )
