-- Calls on a handle, one after the other, keep the promise.
use Rattle.uip_both_c.proofs.Prelude.{AbstractNode, Act, All, AnsweredCall, AppSpec, Bool, BothCall, BothCallsConform, BothTraceConforms}
use Rattle.uip_both_c.proofs.Prelude.{Calls, CallsSlot, Captures, CouldWrite, DidInTurn, DoesNothing, Event, File, FrameCall, Gives}
use Rattle.uip_both_c.proofs.Prelude.{GuardedLink, HasCaptured, InputsFrame, IsAddr, IsCallOfBytes, IsFrameOfBytes, IsOfLine, IsPrefixOf}
use Rattle.uip_both_c.proofs.Prelude.{IsU32, Kept, List, Listens, Makes, OfEachCall, OpensBoth, Periodic, PlainMessage, ProtectsBoth}
use Rattle.uip_both_c.proofs.Prelude.{Setup, Snapshot, Station, Writes, [], acts_before, ap, arith, at_end, both_model, both_program}
use Rattle.uip_both_c.proofs.Prelude.{both_rules, both_spec, call_at, call_few, change_by, change_own, choose, connection_after}
use Rattle.uip_both_c.proofs.Prelude.{connection_in, each_by, each_with, ether_brings_bytes, events_of_call, false, files_of}
use Rattle.uip_both_c.proofs.Prelude.{first_both_numbers, first_numbers, first_station, first_words, if◌then◌else◌, interface_by}
use Rattle.uip_both_c.proofs.Prelude.{is_both_port, is_dropped, is_own_port, key_by, length, length-map, link_of, map, messages_text}
use Rattle.uip_both_c.proofs.Prelude.{next_message_at, no_message, node_of_call, numbers_of, others_stay, own_connection, own_in}
use Rattle.uip_both_c.proofs.Prelude.{own_numbers, own_output_model, own_spec, own_u32, pair_u32, periodic_events, ports_after_call}
use Rattle.uip_both_c.proofs.Prelude.{program_calls, program_conforms, program_goes_home, run, second_back, station_after_call}
use Rattle.uip_both_c.proofs.Prelude.{station_after_calls, station_events_by, subst, sym, text_in_call, true, undropped, value_pages}
use Rattle.uip_both_c.proofs.Prelude.{value_spec, with_change, with_own_u32, words, words_bytes, words_short, write_message, write_value}
use Rattle.uip_both_c.proofs.Prelude.{written_words, ℕ, ◌++◌, ◌+◌, ◌<◌, ◌∙◌, ◌∷◌, ◌≡◌}
use Rattle.std.proofs.lemmas.List.Elements.{All-cons, All-head, All-nil, All-tail}
use Rattle.app_pair.specs.PairSpec.{CanBePaired, own_snapshot}
use Rattle.line_laws.specs.Prelude.{events_among}
use Rattle.frame_device.specs.Newest.{NewestConforms}
use Rattle.node_laws.specs.Prelude.{Exchange, OutputModel, TextConforms, at_every_port}
use Rattle.node_laws.proofs.EveryTraceConforms.{paged_everywhere}
use Rattle.frame_device.proofs.Newest.{newest_text}
use Rattle.own_app.specs.Lemmas.OwnPairs.{own_can_pair}
use Rattle.own_app.proofs.OwnLines.{own_speaks, written_u32}
use Rattle.own_node.proofs.GivenUp.{few_leave}
use Rattle.own_node.specs.Written.{is_accepted, text_written}
use Rattle.own_node.proofs.Alone.{own_words}
use Rattle.own_node.proofs.Containing.{view, view_own}
use Rattle.own_node.proofs.InPair.{in_pair, pair_captured, pair_message, pair_wrote, second_numbers, second_part}
use Rattle.own_node.proofs.WrittenLaws.{Follows, HasWrittenText, Holds, HoldsAfter, change_follows, change_leaves, first_follows}
use Rattle.own_node.proofs.WrittenLaws.{first_holds, run_follows}
use Rattle.pair_laws.specs.PairLines.{own_model}
use Rattle.pair_laws.proofs.PairLines.{speaks_on_lines}
use Rattle.tcp_machine.specs.Prelude.{Connection}
use Rattle.uip_both_c.proofs.BothLaws.{Did, did_undropped, undropped_exact}
use Rattle.uip_device.specs.Lemmas.PagePairs.{pages_can_pair}
use Rattle.uip_node.proofs.DeliveredBytes.{page_bytes}
use Rattle.uip_node.proofs.Steadiness.{steady_of}
use Rattle.web_pages.proofs.ByteLaws.{made_of_bytes_by}
use Rattle.web_pages.proofs.PageLaws.{keeps_page_laws_by}

module _ (files : List File) (setup : Setup) where
  abbrev link : GuardedLink Act
  link = link_of setup

  abbrev spec : AppSpec
  spec = both_spec files

  abbrev pages_pair : CanBePaired (value_spec files)
  pages_pair = pages_can_pair words files

  abbrev after : BothCall → Station Act → Station Act
  after call s = station_after_call files setup call s

  abbrev FollowsAt : Station Act → Type 0
  FollowsAt s = Follows is_own_port second_part second_numbers spec (in_pair (value_spec files) pages_pair) s.node

  follows_after : (call : BothCall) (s : Station Act) → FollowsAt s → FollowsAt (after call s)
  follows_after call s f =
      subst (λ (n : AbstractNode). Follows is_own_port second_part second_numbers spec (in_pair (value_spec files) pages_pair) n)
      (sym (node_of_call both_program spec is_both_port link setup.own call s))
      (run_follows is_own_port second_part second_numbers spec (in_pair (value_spec files) pages_pair) is_both_port
      (events_of_call both_program spec is_both_port link setup.own call s) (with_change (change_by call s) s.node)
      (change_follows is_own_port second_part second_numbers spec (in_pair (value_spec files) pages_pair) (change_by call s) s.node f))

  -- ---- of one call

  -- it is of bytes, and a message could be written
  abbrev IsGood : BothCall → Station Act → Type 0
  IsGood call s = IsCallOfBytes call × CouldWrite call s

  frame_of_bytes : (call : FrameCall) → IsCallOfBytes (Calls call) → IsFrameOfBytes (Makes call)
  frame_of_bytes (InputsFrame frame) is = is
  frame_of_bytes (CallsSlot slot) is = tt
  frame_of_bytes DoesNothing is = tt

  of_line : (call : BothCall) (s : Station Act) → FollowsAt s → IsGood call s → IsOfLine both_program spec is_both_port link setup.own call s
  of_line (Calls call) s f good = (frame_of_bytes call good.0, λ numbers h. h)
  of_line (Listens port) s f good = (tt, λ numbers h. h)
  of_line (Writes slot taken text last) s f good = (
    tt,
    λ numbers h. (let message : PlainMessage = next_message_at taken text last (own_in slot s.node) in
        with_own_u32 true (write_message message (own_numbers true numbers)) numbers
        (written_u32 message (own_numbers true numbers) (pair_message (value_spec files) pages_pair s.node slot taken text last f good.0
        good.1) (own_u32 true numbers h)) h),
  )
  of_line (Gives number text) s f good = (
    tt,
    λ numbers h. with_own_u32 false (write_value number text (own_numbers false numbers)) numbers
        (written_words number text (own_numbers false numbers) good.0 (own_u32 false numbers h)) h,
  )

  -- the periodic call after a message was written
  called : (slot taken : ℕ) (text : List ℕ) (last : Bool) (s : Station Act)
      → (after (Writes slot taken text last) s).node
      ≡ (run spec is_both_port (Periodic slot ∷ []) (with_change (change_by (Writes slot taken text last) s) s.node)).node
  called slot taken text last s =
      node_of_call both_program spec is_both_port link setup.own (Writes slot taken text last) s
      ∙ ap (λ (events : List Event). (run spec is_both_port events (with_change (change_by (Writes slot taken text last) s) s.node)).node)
      (periodic_events (acts_before link.link slot) slot)

  captures_one : (call : BothCall) (s : Station Act) → FollowsAt s → IsGood call s → Captures files setup call s
  captures_one (Calls call) s f good = tt
  captures_one (Listens port) s f good = tt
  captures_one (Writes slot taken text last) s f good =
      subst (λ (n : AbstractNode). HasCaptured (next_message_at taken text last (own_in slot s.node))
      (own_connection (connection_in slot s.node)) (own_connection (connection_in slot n))) (sym (called slot taken text last s))
      (pair_captured (value_spec files) pages_pair s.node slot taken text last f good.0 good.1)
  captures_one (Gives number text) s f good = tt

  -- ---- what the program wrote

  abbrev HoldsAt : AbstractNode → ℕ → ℕ → List ℕ → Type 0
  HoldsAt n count slot text = Holds is_own_port second_part second_numbers spec (in_pair (value_spec files) pages_pair) n count slot text

  abbrev HoldsNext : AbstractNode → ℕ → ℕ → List ℕ → Type 0
  HoldsNext n count slot text = HoldsAfter is_own_port second_part second_numbers spec (in_pair (value_spec files) pages_pair) n count slot text

  call_leaves : (call : FrameCall) (n : AbstractNode) → Follows is_own_port second_part second_numbers spec
      (in_pair (value_spec files) pages_pair) n → (count slot : ℕ) (text : List ℕ) → count + 1 < 4294967296 → HoldsAt n count slot text
      → HoldsNext (run spec is_both_port (events_among (station_events_by link is_both_port n call)) n).node count slot (text ++ [])
  call_leaves call n f count slot text low h =
      few_leave is_own_port second_part second_numbers spec (in_pair (value_spec files) pages_pair) is_both_port
      (events_among (station_events_by link is_both_port n call)) (call_few (interface_by setup) (both_rules (key_by setup)) is_both_port n
      call) n f count slot text low h

  one_leaves : (call : BothCall) (s : Station Act) → FollowsAt s → IsGood call s → (count slot : ℕ) (text : List ℕ) → count + 1 < 4294967296
      → HoldsAt s.node count slot text
      → HoldsNext (after call s).node count slot (text ++ text_in_call slot call)
  one_leaves (Calls call) s f good count slot before low h =
      subst (λ (n : AbstractNode). HoldsNext n count slot (before ++ []))
      (sym (node_of_call both_program spec is_both_port link setup.own (Calls call) s)) (call_leaves call s.node f count slot before low h)
  one_leaves (Listens port) s f good count slot before low h =
      subst (λ (n : AbstractNode). HoldsNext n count slot (before ++ []))
      (sym (node_of_call both_program spec is_both_port link setup.own (Listens port) s)) (call_leaves DoesNothing s.node f count slot before low h)
  one_leaves (Writes at taken text last) s f good count slot before low h =
      subst (λ (n : AbstractNode). HoldsNext n count slot (before ++ text_in_call slot (Writes at taken text last))) (sym (called at taken text last s))
      (pair_wrote (value_spec files) pages_pair s.node at taken text last f good.0 good.1 count slot before h)
  one_leaves (Gives number text) s f good count slot before low h =
      let change : List ℕ → List ℕ = change_own false (write_value number text) in
      subst (λ (n : AbstractNode). HoldsNext n count slot (before ++ []))
      (sym (node_of_call both_program spec is_both_port link setup.own (Gives number text) s))
      (call_leaves DoesNothing (with_change change s.node) (change_follows is_own_port second_part second_numbers spec
      (in_pair (value_spec files) pages_pair) change s.node f) count slot before low
      (change_leaves is_own_port second_part second_numbers spec (in_pair (value_spec files) pages_pair) change s.node count slot before
      (others_stay false (write_value number text (own_numbers false s.node.numbers)) s.node.numbers) h))

  all_leave : (calls : List BothCall) (s : Station Act) → FollowsAt s → OfEachCall files setup IsGood calls s
      → (count slot : ℕ) (text : List ℕ) → count + length calls < 4294967296 → HoldsAt s.node count slot text
      → HasWrittenText (view is_own_port second_part second_numbers (connection_in slot (station_after_calls files setup calls s).node))
      (text_written (station_after_call files setup) (λ (s : Station Act). s.node) text_in_call slot calls s text)
  all_leave [] s f good count slot text low h = h.has
  all_leave (call ∷ calls) s f good count slot text low h =
      all_leave calls (after call s) (follows_after call s f) good.1 (count + 1) slot
      (if is_accepted (connection_in slot (after call s).node).state then [] else text ++ text_in_call slot call) (omega (arith, low))
      (one_leaves call s f good.0 count slot text (omega (arith, low)) h)

-- ---- the applications on the wire

-- what is sent at a port of the program's application
messages_sent : (files : List File) (c : Connection) (exchanges : List Exchange)
    (it : NewestConforms (both_model files c.sockets.own_port.0) c exchanges) → is_own_port c.sockets.own_port.0 ≡ true
    → IsPrefixOf (it.conforms.account 0).stream (messages_text (own_connection c).part.snapshots)
messages_sent files c exchanges it mine =
    let model_is : both_model files c.sockets.own_port.0 ≡ own_model true (own_output_model c.sockets.own_port.0) =
    ap (λ (b : Bool). if b then own_model true (own_output_model c.sockets.own_port.0) else own_model false
    (at_every_port (value_pages files) c.sockets.own_port.0)) mine in
    let text = subst (λ (model : OutputModel). TextConforms model it.newest.incarnation (it.conforms.account 0)) model_is
    (newest_text (both_model files c.sockets.own_port.0) c exchanges it) in
    subst (λ (ks : List Snapshot). IsPrefixOf (it.conforms.account 0).stream (messages_text (map (own_snapshot true) ks))) it.snapshots text.0.2.prefix

both_words : (files : List File) → All IsU32 (first_both_numbers files)
both_words files = pair_u32 (first_numbers files) (numbers_of 0 no_message) (first_words files) own_words

-- ---- the law

undropped_conform : (image : List ℕ) (setup : Setup) → IsAddr setup.own →
    (all : List AnsweredCall) → All IsCallOfBytes (program_calls all)
    → (closed opened old new : Kept) → (opens : OpensBoth image setup.own.0 setup.mac.0 setup.network.mask.0 setup.network.router.0 closed opened)
    → ProtectsBoth setup.secret opened old → DidInTurn Did all old new
    → BothTraceConforms (files_of opens.site) setup all
undropped_conform image setup is all bytes closed opened old new opens protects did =
    let files : List File = files_of opens.site in
    let s : Station Act = first_station files setup in
    let calls : List BothCall = program_calls all in
    let exact = undropped_exact files setup all closed opened old new (opens.opened, protects) did in
    let numbers : List ℕ = first_both_numbers files in
    let spec : AppSpec = both_spec files in
    let link : GuardedLink Act = link_of setup in
    let of = opens.of_image in
    let lawful = keeps_page_laws_by words words_short opens.site of.loaded of.sound in
    let pages : CanBePaired (value_spec files) = pages_can_pair words files in
    let speaks = speaks_on_lines is_own_port (value_spec files) own_spec (at_every_port (value_pages files)) own_output_model
    record {
      steady = steady_of (value_spec files) (value_pages files) lawful;
      bytes = page_bytes (value_spec files) (value_pages files) lawful (λ delivered captures bytes are. made_of_bytes_by words words_bytes
          opens.site of.bytes delivered captures are);
      speaks = paged_everywhere (value_spec files) (value_pages files) lawful;
      port = pages.port;
    }
    record { steady = own_speaks.steady; bytes = own_speaks.bytes; speaks = own_speaks.speaks; port = own_can_pair.port } in
    let contains = in_pair (value_spec files) pages in
    let f = first_follows is_own_port second_part second_numbers spec contains setup.own numbers in
    let good = each_with both_program spec is_both_port link setup.own IsCallOfBytes CouldWrite calls s bytes exact.could in
    let ends = at_end both_program spec is_both_port link setup.own (FollowsAt files setup) (follows_after files setup) calls s f in
    let trace = program_conforms both_program spec is_both_port link setup.own (ether_brings_bytes (interface_by setup))
    (both_model files) speaks.steady speaks.bytes speaks.speaks numbers (both_words files) is all
    (each_by both_program spec is_both_port link setup.own (FollowsAt files setup) (follows_after files setup)
    (IsGood files setup) (IsOfLine both_program spec is_both_port link setup.own) (of_line files setup) calls s f good) exact.frames in
    record {
      trace = trace;
      sent = λ slot live mine. messages_sent files (connection_after files setup all slot) _ (trace.newest slot live) mine;
      captured = each_by both_program spec is_both_port link setup.own (FollowsAt files setup)
          (follows_after files setup) (IsGood files setup) (Captures files setup)
          (captures_one files setup) calls s f good;
      written = λ few slot mine.
          (let c : Connection = connection_after files setup all slot in
          let has = all_leave files setup calls s f good 0 slot []
          (let size = length-map all (λ (it : AnsweredCall). it.call) in omega (arith, few, size))
          (first_holds is_own_port second_part second_numbers spec contains setup.own numbers
          (second_back (first_numbers files) (numbers_of 0 no_message)) slot) in
          ap (λ (x : Connection). messages_text x.part.snapshots)
          (sym (view_own is_own_port second_part second_numbers c (ap is_own_port (ends.at_port slot) ∙ mine))) ∙ has.text_is);
      home = λ six. program_goes_home both_program spec is_both_port (interface_by setup) (both_rules (key_by setup)) setup.own six calls s tt;
    }

-- the calls that are not dropped are of bytes too
call_of_bytes : (ports : List ℕ) (call : BothCall) → IsCallOfBytes call → IsCallOfBytes (call_at ports call)
call_of_bytes ports (Calls (InputsFrame frame)) is =
    choose (λ (call : FrameCall). IsCallOfBytes (Calls call)) (is_dropped ports frame) DoesNothing (InputsFrame frame) (λ e. tt) (λ e. is)
call_of_bytes ports (Calls (CallsSlot slot)) is = is
call_of_bytes ports (Calls DoesNothing) is = is
call_of_bytes ports (Writes slot taken text last) is = is
call_of_bytes ports (Gives number text) is = is
call_of_bytes ports (Listens port) is = is

calls_of_bytes : (ports : List ℕ) (all : List AnsweredCall) → All IsCallOfBytes (program_calls all) → All IsCallOfBytes (program_calls (undropped ports all))
calls_of_bytes ports [] are = All-nil IsCallOfBytes
calls_of_bytes ports (it ∷ all) are =
    let next : List ℕ = ports_after_call it.call ports in
    All-cons IsCallOfBytes (call_at ports it.call) (program_calls (undropped next all))
    (call_of_bytes ports it.call (All-head IsCallOfBytes it.call (program_calls all) are))
    (calls_of_bytes next all (All-tail IsCallOfBytes it.call (program_calls all) are))

pub calls_conform : BothCallsConform
calls_conform image setup is all bytes closed opened old new opens protects did =
    undropped_conform image setup is (undropped [] all) (calls_of_bytes [] all bytes) closed opened old new opens protects
    (did_undropped (files_of opens.site) setup all closed opened old new (opens.opened, protects) did).0
