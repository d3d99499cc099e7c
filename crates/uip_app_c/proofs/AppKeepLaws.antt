-- Calls on a handle, one after the other, keep the promise.
use Rattle.uip_app_c.proofs.Prelude.{AbstractNode, Act, All, AnsweredCall, AppCall, AppCallsConform, AppTraceConforms, Bool, Calls}
use Rattle.uip_app_c.proofs.Prelude.{CallsSlot, Captures, CouldWrite, DidInTurn, DoesNothing, Event, FrameCall, GuardedLink, HasCaptured}
use Rattle.uip_app_c.proofs.Prelude.{InputsFrame, IsAddr, IsCallOfBytes, IsFrameOfBytes, IsOfLine, IsPrefixOf, Kept, List, Listens, Makes}
use Rattle.uip_app_c.proofs.Prelude.{OfEachCall, OpensAndProtects, Periodic, Setup, Snapshot, Station, Writes, [], acts_before, ap}
use Rattle.uip_app_c.proofs.Prelude.{app_program, arith, call_at, call_few, change_by, choose, connection_after, connection_in, each_by}
use Rattle.uip_app_c.proofs.Prelude.{each_with, ether_brings_bytes, events_of_call, first_station, if◌then◌else◌, interface_by}
use Rattle.uip_app_c.proofs.Prelude.{is_for_closed_port, is_own_port, key_by, length, link_of, messages_text, next_message, no_message}
use Rattle.uip_app_c.proofs.Prelude.{node_of_call, numbers_of, own_output_model, own_rules, own_spec, periodic_events, ports_after_call}
use Rattle.uip_app_c.proofs.Prelude.{program_calls, program_conforms, program_goes_home, refl, run, station_after_call}
use Rattle.uip_app_c.proofs.Prelude.{station_after_calls, station_events_by, subst, sym, text_in_call, undropped, with_change, ℕ, ◌++◌}
use Rattle.uip_app_c.proofs.Prelude.{◌+◌, ◌<◌, ◌∙◌, ◌∷◌, ◌≡◌}
use Rattle.std.proofs.lemmas.List.{length-map}
use Rattle.line_laws.specs.Prelude.{events_among}
use Rattle.frame_device.specs.Newest.{NewestConforms}
use Rattle.node_laws.specs.Prelude.{Exchange}
use Rattle.frame_device.proofs.Newest.{newest_text}
use Rattle.own_app.proofs.OwnLines.{own_speaks, written_u32}
use Rattle.own_node.specs.Written.{is_accepted, text_written}
use Rattle.own_node.proofs.Alone.{own_words, alone, alone_captured, alone_message, alone_wrote, any_port, same_numbers, same_part}
use Rattle.own_node.proofs.WrittenLaws.{Follows, HasWrittenText, Holds, HoldsAfter, change_follows, first_follows, first_holds, run_follows}
use Rattle.tcp_machine.specs.Prelude.{Connection}
use Rattle.std.proofs.lemmas.List.Elements.{All-cons, All-head, All-nil, All-tail}
use Rattle.uip_app_c.proofs.AppLaws.{Did, did_undropped, undropped_exact}
use Rattle.own_node.proofs.GivenUp.{few_leave}

module _ (setup : Setup) where
  abbrev link : GuardedLink Act
  link = link_of setup

  abbrev after : AppCall → Station Act → Station Act
  after call s = station_after_call setup call s

  abbrev FollowsAt : Station Act → Type 0
  FollowsAt s = Follows any_port same_part same_numbers own_spec alone s.node

  follows_after : (call : AppCall) (s : Station Act) → FollowsAt s → FollowsAt (after call s)
  follows_after call s f =
      subst (λ (n : AbstractNode). Follows any_port same_part same_numbers own_spec alone n)
      (sym (node_of_call app_program own_spec is_own_port link setup.own call s))
      (run_follows any_port same_part same_numbers own_spec alone is_own_port (events_of_call app_program own_spec is_own_port link setup.own call
      s) (with_change (change_by call s) s.node)
      (change_follows any_port same_part same_numbers own_spec alone (change_by call s) s.node f))

  -- ---- of one call

  -- it is of bytes, and a message could be written
  abbrev IsGood : AppCall → Station Act → Type 0
  IsGood call s = IsCallOfBytes call × CouldWrite call s

  frame_of_bytes : (call : FrameCall) → IsCallOfBytes (Calls call) → IsFrameOfBytes (Makes call)
  frame_of_bytes (InputsFrame frame) is = is
  frame_of_bytes (CallsSlot slot) is = tt
  frame_of_bytes DoesNothing is = tt

  of_line : (call : AppCall) (s : Station Act) → FollowsAt s → IsGood call s → IsOfLine app_program own_spec is_own_port link setup.own call s
  of_line (Calls call) s f good = (frame_of_bytes call good.0, λ numbers h. h)
  of_line (Listens port) s f good = (tt, λ numbers h. h)
  of_line (Writes slot taken text last) s f good =
      (tt, λ numbers h. written_u32 (next_message slot taken text last s.node) numbers (alone_message s.node slot taken text last f good.0 good.1) h)

  -- the periodic call after a message was written
  called : (slot taken : ℕ) (text : List ℕ) (last : Bool) (s : Station Act)
      → (after (Writes slot taken text last) s).node
      ≡ (run own_spec is_own_port (Periodic slot ∷ []) (with_change (change_by (Writes slot taken text last) s) s.node)).node
  called slot taken text last s =
      node_of_call app_program own_spec is_own_port link setup.own (Writes slot taken text last) s
      ∙ ap (λ (events : List Event). (run own_spec is_own_port events (with_change (change_by (Writes slot taken text last) s)
      s.node)).node) (periodic_events (acts_before link.link slot) slot)

  captures_one : (call : AppCall) (s : Station Act) → FollowsAt s → IsGood call s → Captures setup call s
  captures_one (Calls call) s f good = tt
  captures_one (Listens port) s f good = tt
  captures_one (Writes slot taken text last) s f good =
      subst (λ (n : AbstractNode). HasCaptured (next_message slot taken text last s.node) (connection_in slot s.node)
      (connection_in slot n)) (sym (called slot taken text last s))
      (alone_captured s.node slot taken text last f good.0 good.1)

  -- ---- what the program wrote

  abbrev HoldsAt : AbstractNode → ℕ → ℕ → List ℕ → Type 0
  HoldsAt n count slot text = Holds any_port same_part same_numbers own_spec alone n count slot text

  abbrev HoldsNext : AbstractNode → ℕ → ℕ → List ℕ → Type 0
  HoldsNext n count slot text = HoldsAfter any_port same_part same_numbers own_spec alone n count slot text

  call_leaves : (call : FrameCall) (n : AbstractNode) → Follows any_port same_part same_numbers own_spec alone n
      → (count slot : ℕ) (text : List ℕ) → count + 1 < 4294967296 → HoldsAt n count slot text
      → HoldsNext (run own_spec is_own_port (events_among (station_events_by link is_own_port n call)) n).node count slot (text ++ [])
  call_leaves call n f count slot text low h =
      few_leave any_port same_part same_numbers own_spec alone is_own_port (events_among (station_events_by link is_own_port n call))
      (call_few (interface_by setup) (own_rules (key_by setup)) is_own_port n call) n f count slot text low h

  one_leaves : (call : AppCall) (s : Station Act) → FollowsAt s → IsGood call s → (count slot : ℕ) (text : List ℕ) → count + 1 < 4294967296
      → HoldsAt s.node count slot text
      → HoldsNext (after call s).node count slot (text ++ text_in_call slot call)
  one_leaves (Calls call) s f good count slot before low h =
      subst (λ (n : AbstractNode). HoldsNext n count slot (before ++ []))
      (sym (node_of_call app_program own_spec is_own_port link setup.own (Calls call) s)) (call_leaves call s.node f count slot before low h)
  one_leaves (Listens port) s f good count slot before low h =
      subst (λ (n : AbstractNode). HoldsNext n count slot (before ++ []))
      (sym (node_of_call app_program own_spec is_own_port link setup.own (Listens port) s)) (call_leaves DoesNothing s.node f count slot before low h)
  one_leaves (Writes at taken text last) s f good count slot before low h =
      subst (λ (n : AbstractNode). HoldsNext n count slot (before ++ text_in_call slot (Writes at taken text last))) (sym (called at taken text last s))
      (alone_wrote s.node at taken text last f good.0 good.1 count slot before h)

  all_leave : (calls : List AppCall) (s : Station Act) → FollowsAt s → OfEachCall setup IsGood calls s
      → (count slot : ℕ) (text : List ℕ) → count + length calls < 4294967296 → HoldsAt s.node count slot text
      → HasWrittenText (connection_in slot (station_after_calls setup calls s).node)
      (text_written (station_after_call setup) (λ (s : Station Act). s.node) text_in_call slot calls s text)
  all_leave [] s f good count slot text low h = h.has
  all_leave (call ∷ calls) s f good count slot text low h =
      all_leave calls (after call s) (follows_after call s f) good.1 (count + 1) slot
      (if is_accepted (connection_in slot (after call s).node).state then [] else text ++ text_in_call slot call) (omega (arith, low))
      (one_leaves call s f good.0 count slot text (omega (arith, low)) h)

-- ---- the law

messages_sent : (c : Connection) (exchanges : List Exchange) (it : NewestConforms (own_output_model c.sockets.own_port.0) c exchanges)
    → IsPrefixOf (it.conforms.account 0).stream (messages_text c.part.snapshots)
messages_sent c exchanges it =
    subst (λ (ks : List Snapshot). IsPrefixOf (it.conforms.account 0).stream (messages_text ks)) it.snapshots
    (newest_text (own_output_model c.sockets.own_port.0) c exchanges it).0.2.prefix

undropped_conform : (setup : Setup) → IsAddr setup.own → (all : List AnsweredCall)
    → All IsCallOfBytes (program_calls all)
    → (closed opened old new : Kept) → OpensAndProtects setup closed opened old → DidInTurn Did all old new
    → AppTraceConforms setup all
undropped_conform setup is all bytes closed opened old new start did =
    let s : Station Act = first_station setup in
    let calls : List AppCall = program_calls all in
    let exact = undropped_exact setup all closed opened old new start did in
    let numbers : List ℕ = numbers_of 0 no_message in
    let link : GuardedLink Act = link_of setup in
    let f = first_follows any_port same_part same_numbers own_spec alone setup.own numbers in
    let good = each_with app_program own_spec is_own_port link setup.own IsCallOfBytes CouldWrite calls s bytes exact.could in
    let trace = program_conforms app_program own_spec is_own_port link setup.own (ether_brings_bytes (interface_by setup))
    own_output_model own_speaks.steady own_speaks.bytes own_speaks.speaks numbers own_words is all
    (each_by app_program own_spec is_own_port link setup.own (FollowsAt setup) (follows_after setup)
    (IsGood setup) (IsOfLine app_program own_spec is_own_port link setup.own) (of_line setup) calls s f good) exact.frames in
    record {
      trace = trace;
      sent = λ slot live. messages_sent (connection_after setup all slot) _ (trace.newest slot live);
      captured = each_by app_program own_spec is_own_port link setup.own (FollowsAt setup) (follows_after setup)
          (IsGood setup) (Captures setup) (captures_one setup) calls s f good;
      written = λ few slot.
          (all_leave setup calls s f good 0 slot [] (let size = length-map all (λ (it : AnsweredCall). it.call) in omega (arith, few, size))
          (first_holds any_port same_part same_numbers own_spec alone setup.own numbers refl slot)).text_is;
      home = λ six. program_goes_home app_program own_spec is_own_port (interface_by setup) (own_rules (key_by setup)) setup.own six calls s tt;
    }

-- the calls that are not dropped are of bytes too
call_of_bytes : (ports : List ℕ) (call : AppCall) → IsCallOfBytes call → IsCallOfBytes (call_at ports call)
call_of_bytes ports (Calls (InputsFrame frame)) is =
    choose (λ (call : FrameCall). IsCallOfBytes (Calls call)) (is_for_closed_port ports frame) DoesNothing (InputsFrame frame) (λ e. tt) (λ e. is)
call_of_bytes ports (Calls (CallsSlot slot)) is = is
call_of_bytes ports (Calls DoesNothing) is = is
call_of_bytes ports (Writes slot taken text last) is = is
call_of_bytes ports (Listens port) is = is

calls_of_bytes : (ports : List ℕ) (all : List AnsweredCall) → All IsCallOfBytes (program_calls all) → All IsCallOfBytes (program_calls (undropped ports all))
calls_of_bytes ports [] are = All-nil IsCallOfBytes
calls_of_bytes ports (it ∷ all) are =
    let next : List ℕ = ports_after_call it.call ports in
    All-cons IsCallOfBytes (call_at ports it.call) (program_calls (undropped next all))
    (call_of_bytes ports it.call (All-head IsCallOfBytes it.call (program_calls all) are))
    (calls_of_bytes next all (All-tail IsCallOfBytes it.call (program_calls all) are))

pub calls_conform : AppCallsConform
calls_conform setup is all bytes closed opened old new start did =
    undropped_conform setup is (undropped [] all) (calls_of_bytes [] all bytes) closed opened old new start
    (did_undropped setup all closed opened old new start did).0
