-- What one datagram does to a guarded node: it names the numbers of its connection, or changes nothing; and a SYN is answered.
use Rattle.std.proofs.Common.{◌≡◌, ℕ, ◌+◌, ◌-◌, ◌<◌, ◌≤◌, ◌⊎◌, inl, inr, Bool, true, false, not, ◌&&◌, ◌||◌, ◌==◌, All, List, [], ◌∷◌, ◌++◌}
use Rattle.std.proofs.Common.{Option, Some, None, Result, Ok, Err, if◌then◌else◌, position, length, drop, refl, sym, ap, ◌∙◌, subst, arith}
use Rattle.std.proofs.Common.{eqb, length-drop, length-take, ltb}
use Rattle.std.proofs.lemmas.Bool.{and_from, eq-eqb, ltb-false}
use Rattle.std.specs.Prelude.{is_some, slice_range}
use Rattle.std.proofs.lemmas.List.{length-take-le, set-get_or}
use Rattle.uip_wire.specs.Prelude.{checksum_of}
use Rattle.app_events.specs.Prelude.{AppSpec, IsByte}
use Rattle.uip_ipv4.specs.Prelude.{payload_of}
use Rattle.uip_ipv4.specs.declared.head.IpHead.{IpHead}
use Rattle.uip_ipv4.specs.declared.proto.Proto.{Proto}
use Rattle.tcp_segment.specs.Prelude.{header_len, plain_of, pseudo_header, segment_or_fate}
unfoldable use Rattle.tcp_segment.specs.Prelude.{segment_in}
use Rattle.tcp_segment.specs.declared.fate.TcpFate.{TcpFate}
use Rattle.tcp_segment.specs.declared.flags.TheConstants.{SYN}
use Rattle.tcp_segment.specs.declared.segment.Segment.{Segment}
use Rattle.tcp_machine.specs.Prelude.{Connection, Outcome, Sockets, asked, closed, leaves, on_segment, serves}
use Rattle.tcp_machine.specs.declared.step.Step.{Step}
use Rattle.uip_node.specs.Prelude.{AbstractNode, Arrived, Event, NodeStep, arrives_at, by_head, by_proto, by_segment, connection_in}
use Rattle.uip_node.specs.Prelude.{event_of}
use Rattle.uip_node.specs.Prelude.{Ran, Reply, TcpReply, joined, run, slot_for_syn, snapshot, sockets_of, step}
unfoldable use Rattle.uip_node.specs.Prelude.{happened}
use Rattle.uip_node.proofs.Basics.{choose}
use Rattle.node_laws.proofs.Wire.{IsWire, bytes_wire}
use Rattle.segment_guard.specs.Verdict.{is_foreign, passes}
use Rattle.guarded_node.proofs.ArrivingBytes.{arriving_low}
use Rattle.slot_guard.specs.Displaced.{displaced_by}
use Rattle.guarded_node.proofs.Ranks.{displaced_is_live}
use Rattle.guarded_node.proofs.Resets.{there, unanswered}
use Rattle.guarded_node.proofs.Slots.{answered, syn_finds_slot}
use Rattle.guarded_node.specs.Guarded.{by_verdict, gives_up, reset_by}
use Rattle.guarded_node.specs.Laws.{AnswersSyn}
use Rattle.guarded_node.specs.Verdicts.{claim_of, displacing, expected_by, finds_no_slot, held_by, verdict_at, verdict_by_head}
use Rattle.guarded_node.specs.Verdicts.{verdict_by_proto, verdict_of, verdict_on}
unfoldable use Rattle.guarded_node.specs.Verdicts.{verdict}
use Rattle.guarded_node.specs.Wire.{arriving}
use Rattle.guarded_node.specs.declared.guard.Rules.{Rules}
use Rattle.guarded_node.specs.declared.verdict.Verdict.{Verdict}
use Rattle.guarded_node.specs.declared.verdict.Verdict.TheVariants.{Displace, Drop, Pass}
use Rattle.guard_laws.specs.Blind.{NamesBoth, NamesNext}
use Rattle.guard_laws.specs.Datagrams.{CanOpen, IsAnsweredBySynAck, IsSegmentOf, IsUnchanged, NoDatagramIsBlind, SynIsAnswered}
use Rattle.guard_laws.proofs.Blind.{nothing_blind}

-- ---- the text of a segment is within its datagram

abbrev HasItsText : List ℕ → Result Segment TcpFate → Type 0
HasItsText bytes (Err fate) = Unit {0}
HasItsText bytes (Ok s) = s.text_len ≡ length (slice_range bytes s.text_at (s.text_at + s.text_len))

-- a part within a list
part_long : (at n : ℕ) (xs : List ℕ) → at + n ≤ length xs → n ≡ length (slice_range xs at (at + n))
part_long at n xs h = (let d = length-drop at xs in let t = length-take-le (at + n - at) (drop at xs) (omega (arith, d, h)) in omega (arith, t))

payload_within : (head : IpHead) (bytes : List ℕ) → 20 ≤ length (payload_of head bytes) → 20 + length (payload_of head bytes) ≤ length bytes
payload_within head bytes h =
    (let d = length-drop 20 bytes in let t = length-take (head.total - 20) (drop 20 bytes) in omega (arith, d, t, h))

in_payload : (head : IpHead) (bytes : List ℕ) → HasItsText bytes (segment_or_fate head bytes)
unfolding segment_in
in_payload head bytes =
    let payload : List ℕ = payload_of head bytes in
    let P : Result Segment TcpFate → Type 0 = λ r. HasItsText bytes r in
    choose P (ltb (length payload) 20) _ _ (λ e. tt)
    (λ e. choose P (ltb (header_len payload) 20 || ltb (length payload) (header_len payload)) _ _ (λ f. tt)
    (λ f. choose P (not (eqb (checksum_of (pseudo_header head.source.0 head.target.0 (length payload) ++ payload)) 0)) _ _ (λ g. tt)
    (λ g. (
    let long : 20 ≤ length payload = ltb-false (length payload) 20 e in
    let last : ltb (length payload) (header_len payload) ≡ false = second (ltb (header_len payload) 20) _ f in
    let head_fits : header_len payload ≤ length payload = ltb-false (length payload) (header_len payload) last in
    let within = payload_within head bytes long in
    part_long (20 + header_len payload) (length payload - header_len payload) bytes (omega (arith, head_fits, within))
    ))))
  where
    second : (b c : Bool) → b || c ≡ false → c ≡ false
    second true c h = absurd (cc)
    second false c h = h

text_fits : (head : IpHead) (bytes : List ℕ) (s : Segment) → segment_or_fate head bytes ≡ Ok s
    → s.text_len ≡ length (slice_range bytes s.text_at (s.text_at + s.text_len))
text_fits head bytes s e = subst (λ (r : Result Segment TcpFate). HasItsText bytes r) e (in_payload head bytes)

-- ---- the verdict and the event of a segment of a connection

module _ (rules : Rules) (m : AppSpec) (served : ℕ → Bool) (n : AbstractNode) (bytes : List ℕ) (head : IpHead) (s : Segment)
    (is : IsSegmentOf n bytes head s) where
  abbrev pair : Sockets
  pair = sockets_of head.source s

  abbrev arrives : Event
  arrives = Arrived pair (plain_of s bytes)

  pub event_is : event_of n.addr bytes ≡ arrives
  event_is = ap (λ r. by_head bytes r) is.head_is ∙ (ap (λ (proto : Proto). by_proto proto head bytes) is.proto
      ∙ ap (λ r. by_segment head bytes r) is.segment_is)

  pub verdict_is : (o : Option ℕ) → position (serves pair) n.connections ≡ o → verdict_on rules served n bytes
      ≡ (if is_foreign head.source n.addr then Drop else verdict_at rules served n head.source s o)
  unfolding verdict
  verdict_is o at =
      let either : Verdict → Verdict = λ v. if is_foreign head.source n.addr then Drop else v in
      ap (λ r. verdict_by_head rules served n bytes r) is.head_is
      ∙ (ap (λ (proto : Proto). either (verdict_by_proto rules served n bytes head proto)) is.proto
      ∙ (ap (λ r. either (verdict_of rules served n head r)) is.segment_is
      ∙ ap (λ (x : Option ℕ). either (verdict_at rules served n head.source s x)) at))

  -- ---- of a connection

  module _ (slot : ℕ) (at : position (serves pair) n.connections ≡ Some slot) (low : All IsByte bytes) where
    abbrev c : Connection
    c = connection_in slot n

    abbrev Fate : Verdict → Type 0
    Fate v = NamesNext (expected_by c) s ⊎ (NamesBoth (expected_by c) s
        ⊎ IsUnchanged n (run m served (by_verdict n (event_of n.addr bytes) v ++ []) n).node)

    -- the connection is put back as it was
    put_back : (event : Event) → IsUnchanged n (happened m n event slot c (leaves c n.numbers Step.Ack)).node
    unfolding happened
    put_back event = record { connections = set-get_or n.connections slot closed; numbers = refl }

    only_answers : on_segment m c n.numbers (plain_of s bytes) ≡ leaves c n.numbers Step.Ack
        → IsUnchanged n (step m served n (event_of n.addr bytes)).node
    only_answers e =
        subst (λ (event : Event). IsUnchanged n (step m served n event).node) (sym event_is)
        (subst (λ (o : Option ℕ). IsUnchanged n (arrives_at m served n pair (plain_of s bytes) o).node) (sym at)
        (subst (λ (o : Outcome). IsUnchanged n (happened m n arrives slot c (asked m (snapshot n arrives slot) o)).node) (sym e) (put_back arrives)))

    ack_low : s.ack.0 < 4294967296
    ack_low = (subst IsWire event_is (bytes_wire n.addr bytes low)).3

    if_passed : passes (expected_by c) s ≡ true → Fate Pass
    if_passed passed =
        elim (nothing_blind m c n.numbers (expected_by c) s (slice_range bytes s.text_at (s.text_at + s.text_len))
        (record { rcv_nxt = refl; snd_una = refl; outstanding = refl; is_waiting = refl }) (text_fits head bytes s is.segment_is) ack_low passed) [
          | inl next ↦ inl next
          | inr more ↦ elim more [ inl both ↦ inr (inl both) | inr answered ↦ inr (inr (only_answers answered)) ]
        ]

    by_both : (foreign passed : Bool) → passes (expected_by c) s ≡ passed → Fate (if foreign then Drop else if passed then Pass else Drop)
    by_both true passed e = inr (inr (record { connections = refl; numbers = refl }))
    by_both false true e = if_passed e
    by_both false false e = inr (inr (record { connections = refl; numbers = refl }))

    pub not_blind : Fate (verdict_on rules served n bytes)
    not_blind = subst Fate (sym (verdict_is (Some slot) at)) (by_both (is_foreign head.source n.addr) (passes (expected_by c) s) refl)

  -- ---- a plain SYN of no connection

  module _ (none : position (serves pair) n.connections ≡ None) (home : is_foreign head.source n.addr ≡ false) (syn : s.flags ≡ SYN)
      (port : served s.to.0 ≡ true) where
    abbrev Ends : Verdict → Type 0
    Ends v = IsAnsweredBySynAck pair s bytes (run m served (by_verdict n (event_of n.addr bytes) v ++ []) n)

    plain_syn : (s.flags == SYN) ≡ true
    plain_syn = eq-eqb s.flags SYN syn

    by_reply : (ran : Ran) (o : Option Reply) → ran.sent ≡ joined o [] → AnswersSyn pair (plain_of s bytes) o → IsAnsweredBySynAck pair s bytes ran
    by_reply ran o e h = record {
      reply = TcpReply pair h.id false h.reply;
      sent = e ∙ ap (λ (x : Option Reply). joined x []) h.is;
      answers = record { id = h.id; reply = h.reply; is = refl; flags = h.flags; ack = h.ack };
    }

    -- there is a slot
    at_free : is_some (slot_for_syn n.connections) ≡ true → Ends Pass
    at_free free =
        by_reply (run m served (event_of n.addr bytes ∷ []) n) (step m served n (event_of n.addr bytes)).sent refl
        (subst (λ (e : Event). AnswersSyn pair (plain_of s bytes) (step m served n e).sent) (sym event_is)
        (answered m served n pair (plain_of s bytes) (position (serves pair) n.connections) none free
        (and_from (s.flags == SYN) (served s.to.0) plain_syn port)))

    -- a connection is given up
    at_full : (slot : ℕ) → displaced_by held_by (claim_of rules n.addr head.source s) n.connections ≡ Some slot → Ends (Displace slot)
    at_full slot e =
        let f = displaced_is_live n.connections (claim_of rules n.addr head.source s) slot e in
        let old : Connection = connection_in slot n in
        let first : NodeStep = step m served n (gives_up old) in
        let quiet : first.sent ≡ None = unanswered m served n old.sockets (reset_by old) refl refl in
        let has = syn_finds_slot m served n slot f.0 (f.1 old (there n slot f.0)) in
        let second : Option Reply = (step m served first.node (event_of n.addr bytes)).sent in
        by_reply (run m served (gives_up old ∷ event_of n.addr bytes ∷ []) n) second
        (ap (λ (x : Option Reply). joined x (joined second [])) quiet)
        (subst (λ (e : Event). AnswersSyn pair (plain_of s bytes) (step m served first.node e).sent) (sym event_is)
        (has.answer pair (plain_of s bytes) none plain_syn port))

    tested : (x y z : Bool) → x ≡ true → y ≡ true → ((x && y) && not z) ≡ not z
    tested true true z e f = refl
    tested true false z e f = absurd (cc)
    tested false y z e f = absurd (cc)

    by_slot : (b : Bool) → is_some (slot_for_syn n.connections) ≡ b → CanOpen rules n head s
        → Ends (verdict_at rules served n head.source s None)
    by_slot true e can =
        let finds : finds_no_slot served n s ≡ false = tested (s.flags == SYN) (served s.to.0) _ plain_syn port ∙ ap not e in
        subst Ends (sym (ap (λ (b : Bool). if b then displacing (displaced_by held_by (claim_of rules n.addr head.source s) n.connections) else Pass)
        finds)) (at_free e)
    by_slot false e (inl free) = absurd (cc)
    by_slot false e (inr (slot, d)) =
        let finds : finds_no_slot served n s ≡ true = tested (s.flags == SYN) (served s.to.0) _ plain_syn port ∙ ap not e in
        subst Ends (sym (ap (λ (b : Bool). if b then displacing (displaced_by held_by (claim_of rules n.addr head.source s) n.connections) else Pass)
        finds ∙ ap displacing d)) (at_full slot d)

    pub answered_so : CanOpen rules n head s → Ends (verdict_on rules served n bytes)
    answered_so can =
        subst Ends (sym (verdict_is None none
        ∙ ap (λ (b : Bool). if b then Drop else verdict_at rules served n head.source s None) home))
        (by_slot (is_some (slot_for_syn n.connections)) refl can)

pub no_datagram_is_blind : NoDatagramIsBlind
no_datagram_is_blind rules m served n wire head s slot low is at =
    not_blind rules m served n (arriving rules.key wire) head s is slot at (arriving_low rules.key wire low)

pub syn_is_answered : SynIsAnswered
syn_is_answered rules m served n wire head s is home syn port none can =
    answered_so rules m served n (arriving rules.key wire) head s is none home syn port can
