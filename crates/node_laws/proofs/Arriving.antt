-- A cooperating peer of a node has its page, whatever other peers do and the link loses, repeats or reorders: the run.
use Rattle.node_laws.proofs.Prelude.{All, All-cons, All-nil, option_map_or, ◌≡◌, ℕ, zero, suc, ◌+◌, ◌<◌, ◌≤◌, ◌==◌, Bool, true}
use Rattle.node_laws.proofs.Prelude.{false, not, ◌&&◌, ◌||◌, ◌⊎◌, inl, inr, List, [], ◌∷◌, ◌++◌, length, set, drop, refl, sym, ap, ◌∙◌}
use Rattle.node_laws.proofs.Prelude.{append_assoc, subst, arith, Option, Some, None, is_some, slice_get, eqb, ltb, length-append}
use Rattle.node_laws.proofs.Prelude.{if◌then◌else◌, eq-eqb}
use Rattle.node_laws.proofs.Prelude.{All-tail, wrap, Addr, SYN, PlainSegment, has_syn, has_fin, has_rst, has_ack, AppState, AppSpec}
use Rattle.node_laws.proofs.Prelude.{IsPrefixOf, Pages, SynRcvd, Sockets, Connection, closed, is_live, same_sockets, rows_from, row_of}
use Rattle.node_laws.proofs.Prelude.{is_plain_syn, occupies_sequence_space, segment_of, bare_ack, fin_of, is_acked, reset_for_no_connection}
use Rattle.node_laws.proofs.Prelude.{reset_of, snd_una, syn_ack, text_segment, Outcome, Step, asked, accepted, first_mss}
use Rattle.node_laws.proofs.Prelude.{on_segment, on_tick, Event, Periodic, called_by, AbstractNode, NodeStep, snapshot, step}
use Rattle.node_laws.proofs.Prelude.{serving, IsEvent, and_true, both_ways, choose, eqb-eq, ltb-zero, only_some, wrap_wrap, append_nothing}
use Rattle.node_laws.proofs.Prelude.{get_set_same, is_served, served, free, on_segment_fits, on_tick_fits, node_snapshot, Asker, Arrives}
use Rattle.node_laws.proofs.Prelude.{HasAcknowledged, IsWithoutFin, IsWithoutReset, Progresses, is_time_wait, rcv_nxt, serves, Moves}
use Rattle.node_laws.proofs.Prelude.{asked_moves, segment_moves, tick_moves, ReceivesStale, All-head, IsU32, IsOfLine, map, received_from}
use Rattle.node_laws.proofs.Prelude.{acknowledges_new, awaits_ack, expected_next, fresh, in_handshake, is_stale, retransmission_limit}
use Rattle.node_laws.proofs.Prelude.{retransmissions, sent_at, sent_next, with_fresh, text_received, bare_acks, receives_all, SendsSyn}
use Rattle.node_laws.proofs.Prelude.{SendsNext, calls_of, HasItsPage, Exchange, TraceEntry, exchange, exchanges_onto, exchanges_with}
use Rattle.node_laws.proofs.GoodNodes.{Good, good_on}
use Rattle.node_laws.proofs.HonestConnections.{conn_at, Counts, AtSyn, Stage, Snapshots, both_no, stage_quiet, answered, called}
use Rattle.node_laws.proofs.HonestConnections.{stage_serves, stage_stays, awaits_more, ends_now, expects, has_sent, few_out, keeps_in_time}
use Rattle.node_laws.proofs.HonestConnections.{discards, stage_at, syn_out, syn_stays}
use Rattle.node_laws.proofs.HonestConnections.Stage.{at_syn}
use Rattle.node_laws.proofs.HonestConnections.Next.{goes_on_so, ends_so}
use Rattle.node_laws.proofs.HonestConnections.Discards.{with_ack, silently}
use Rattle.node_laws.proofs.HonestSessions.{has_of, nothing_more, has_on}
use Rattle.node_laws.proofs.Lines.{comes, quiet, met}
use Rattle.node_laws.proofs.Lines.OfMedium.{passes_by, evicted, unanswered, refused, born, delivers_text, ticks}
use Rattle.node_laws.proofs.Paging.{Answering, Paging}
use Rattle.node_laws.proofs.Replying.{answer_no_syn, reset_ends, tick_reset_ends}
use Rattle.node_laws.proofs.Slots.{Acted, acts}
use Rattle.node_laws.proofs.Slots.Acts.{is_called, is_met, is_apart, makes_room}
use Rattle.node_laws.proofs.StepTable.{nil_of}
use Rattle.node_laws.proofs.Steps.{Changes, Drops, IsStep, LineStep, OfNode, OnNode, Sets, WireStep, changed, node_on_wire}
use Rattle.node_laws.proofs.Steps.{trace_on_wire, unguarded}
use Rattle.node_laws.proofs.Wire.{line_wire, wire_event}
use Rattle.node_laws.proofs.Waiting.{timed_syn}

-- where one lives the table has a row
rows_some : (k : ℕ) (cs : List Connection) (i : ℕ) (old z : Connection) → slice_get cs i ≡ Some old → is_live z.state ≡ true
    → 0 < length (rows_from k (set cs i z))
rows_some k [] i old z h l = absurd (cc)
rows_some k (c ∷ cs) zero old z h l = choose (λ r. 0 < length r) (is_live z.state) (row_of k z ∷ rows_from (k + 1) cs)
    (rows_from (k + 1) cs) (λ e. omega arith) (λ e. absurd (cc))
rows_some k (c ∷ cs) (suc i) old z h l = choose (λ r. 0 < length r) (is_live c.state) (row_of k c ∷ rows_from (k + 1) (set cs i z))
    (rows_from (k + 1) (set cs i z)) (λ e. omega arith) (λ e. rows_some (k + 1) cs i old z h l)

calls_more : (slot : ℕ) (t : TraceEntry) (turns : List TraceEntry) → calls_of slot turns ≤ calls_of slot (t ∷ turns)
calls_more slot t turns = choose (λ n. calls_of slot turns ≤ n) (option_map_or (λ place. place == slot) (called_by t.event) false)
    (calls_of slot turns + 1) (calls_of slot turns) (λ e. omega arith) (λ e. omega arith)

pub calls_one : (slot : ℕ) (t : TraceEntry) (turns : List TraceEntry) → t.event ≡ Periodic slot → calls_of slot (t ∷ turns) ≡ calls_of slot turns + 1
calls_one slot t turns e =
    ap (λ b. if b then calls_of slot turns + 1 else calls_of slot turns)
    (ap (λ z. option_map_or (λ place. place == slot) (called_by z) false) e ∙ eq-eqb slot slot refl)

-- nothing more is sent after the whole
nothing_after : (xs text whole : List ℕ) → xs ≡ whole → IsPrefixOf (xs ++ text) whole → xs ++ text ≡ whole
nothing_after xs text whole e h =
    let none : text ≡ [] = nil_of text (let j = ap length h.joined in let k = length-append (xs ++ text) h.rest in
    let l = length-append xs text in let q = ap length e in omega (arith, j, k, l, q)) in
    ap (λ t. xs ++ t) none ∙ append_nothing xs ∙ e

-- ---- what the peer does, exchange by exchange

-- nothing is received, and the node does not give up
pub data InTime (x : Exchange) (before : List Exchange) : Type 0 where
  kept_on : ((s : PlainSegment) → x.output ≡ Some s → has_rst s.flags ≡ false) → InTime x before
  tries_left : retransmissions before < retransmission_limit before → InTime x before

-- nothing is received, or the next segment, or a stale one
pub data Goes (a : Asker) (x : Exchange) (before : List Exchange) : Type 0 where
  waits_for : x.received ≡ None → InTime x before → Goes a x before
  brings_next : SendsNext a x before → Goes a x before
  brings_stale : ReceivesStale a x before → Goes a x before

abbrev pub GoesOn : Asker → List Exchange → Type 0
GoesOn a [] = ⊥
GoesOn a (x ∷ []) = SendsSyn a x
GoesOn a (x ∷ y ∷ older) = Goes a x (fresh a (y ∷ older)) × GoesOn a (y ∷ older)

-- the exchanges before went on so too
pub goes_before : (a : Asker) (p : Sockets) (turns : List TraceEntry) (y : Exchange) (older : List Exchange)
    → GoesOn a (exchanges_onto p turns (y ∷ older)) → GoesOn a (y ∷ older)
goes_before a p [] y older h = h
goes_before a p (t ∷ turns) y older h = (goes_before a p turns _ (y ∷ older) h).1

no_text : (s : PlainSegment) → occupies_sequence_space s ≡ false → s.text ≡ []
no_text s e = nil_of s.text (ltb-zero (length s.text) (both_no (ltb 0 (length s.text)) (has_syn s.flags || has_fin s.flags) e).0)

-- the next segment of the peer is not stale
next_fresh : (a : Asker) (x : Exchange) (before : List Exchange) (h : SendsNext a x before) → is_stale a before h.segment ≡ false
next_fresh a x before h =
    let s : PlainSegment = h.segment in
    choose (λ (b : Bool). b ≡ false) (occupies_sequence_space s) (not (s.seq == expected_next a before)) (not (acknowledges_new a before s))
    (λ e. ap (λ (b : Bool). not b) (eq-eqb s.seq (expected_next a before) h.seq))
    (λ e. ap (λ (b : Bool). not b)
    (ap (λ b. b && (awaits_ack before && (s.ack == sent_next a before))) h.acks
    ∙ ap (λ b. b && (s.ack == sent_next a before)) (h.some (no_text s e))
    ∙ eq-eqb s.ack (sent_next a before) h.ack))

pub keeps_fresh : (a : Asker) (x : Exchange) (before : List Exchange) → SendsNext a x before → with_fresh a x before ≡ x ∷ before
keeps_fresh a x before h =
    ap (λ (r : Option PlainSegment). if option_map_or (is_stale a before) r false then before else x ∷ before) h.received
    ∙ ap (λ b. if b then before else x ∷ before) (next_fresh a x before h)

drops_stale : (a : Asker) (x : Exchange) (before : List Exchange) → ReceivesStale a x before → with_fresh a x before ≡ before
drops_stale a x before h =
    ap (λ (r : Option PlainSegment). if option_map_or (is_stale a before) r false then before else x ∷ before) h.received
    ∙ ap (λ b. if b then before else x ∷ before) h.stale

pub keeps_quiet : (a : Asker) (x : Exchange) (before : List Exchange) → x.received ≡ None → with_fresh a x before ≡ x ∷ before
keeps_quiet a x before h = ap (λ (r : Option PlainSegment). if option_map_or (is_stale a before) r false then before else x ∷ before) h

-- ---- what was acknowledged

-- what the connection holds as acknowledged was so by a segment
abbrev Confirmed : List Exchange → Connection → Type 0
Confirmed incarnation c = (c.acked ≡ 0) ⊎ HasAcknowledged incarnation (snd_una c)

one_later : (x : Exchange) (incarnation : List Exchange) (number : ℕ) → HasAcknowledged incarnation number → HasAcknowledged (x ∷ incarnation) number
one_later x incarnation number h = record { place = suc h.place; segment = h.segment; received = h.received; acks = h.acks; ack = h.ack }

still_confirmed : (x : Exchange) (incarnation : List Exchange) (c : Connection) → Confirmed incarnation c → Confirmed (x ∷ incarnation) c
still_confirmed x incarnation c h = elim h [ inl z ↦ inl z | inr k ↦ inr (one_later x incarnation (snd_una c) k) ]

-- a segment of this exchange acknowledges all that is outstanding
abbrev Acks : Exchange → Connection → Type 0
Acks x c = (t : PlainSegment) × (x.received ≡ Some t) × (has_ack t.flags ≡ true) × (t.ack ≡ wrap (snd_una c + c.len))

confirmed_on : (acked : Bool) (x : Exchange) (incarnation : List Exchange) (c d : Connection) → Moves acked c d → (acked ≡ true → Acks x c)
    → Confirmed incarnation c → Confirmed (x ∷ incarnation) d
confirmed_on acked x incarnation c d moves acks h =
    let iss : d.iss ≡ c.iss = moves.iss in
    elim moves.place [
      | inl e ↦ elim h [
        | inl z ↦ inl (e ∙ z)
        | inr k ↦ inr (subst (λ n. HasAcknowledged (x ∷ incarnation) n)
            (ap wrap (let z : c.iss + c.acked ≡ d.iss + d.acked = omega (arith, iss, e) in z)) (one_later x incarnation (snd_una c) k))
      ]
      | inr e ↦ inr (let by = acks e.0 in let more : d.acked ≡ c.acked + c.len = e.1 in
          record {
            place = 0;
            segment = by.0;
            received = by.1;
            acks = by.2;
            ack = by.3 ∙ wrap_wrap (c.iss + c.acked) c.len ∙ ap wrap (let z : c.iss + c.acked + c.len ≡ d.iss + d.acked = omega (arith, iss, more) in z);
          })
    ]

-- every segment of a connection starts at SND.UNA
sent_seq : (m : AppSpec) (d : Connection) (st : Step) (s : PlainSegment) → segment_of m d st ≡ Some s → s.seq ≡ snd_una d
sent_seq m d Step.Drop s e = absurd (cc)
sent_seq m d Step.Ack s e = only_some (λ (x : PlainSegment). x.seq ≡ snd_una d) (bare_ack d) s e refl
sent_seq m d (Step.SynAck again) s e = only_some (λ (x : PlainSegment). x.seq ≡ snd_una d) (syn_ack d) s e refl
sent_seq m d (Step.Text again) s e = only_some (λ (x : PlainSegment). x.seq ≡ snd_una d) (text_segment m d) s e refl
sent_seq m d (Step.Fin again) s e = only_some (λ (x : PlainSegment). x.seq ≡ snd_una d) (fin_of d) s e refl
sent_seq m d Step.Reset s e = only_some (λ (x : PlainSegment). x.seq ≡ snd_una d) (reset_of d) s e refl
sent_seq m d (Step.Ask fresh) s e = absurd (cc)

-- check 3 of a segment, in its words
acks_by : (c : Connection) (s : PlainSegment) (output : Option PlainSegment) → not (has_rst s.flags) && is_acked c s ≡ true → Acks (met (Some s) output) c
acks_by c s output e =
    let a = and_true (not (has_rst s.flags)) (is_acked c s) e in
    let b = and_true (has_ack s.flags) (ltb 0 c.len && (s.ack == wrap (snd_una c + c.len))) a.1 in
    let d = and_true (ltb 0 c.len) (s.ack == wrap (snd_una c + c.len)) b.1 in
    (s, refl, b.0, eqb-eq s.ack (wrap (snd_una c + c.len)) d.1)

-- when the FIN is sent, everything before it was acknowledged
acked_before : (m : AppSpec) (pages : Pages) (a : Asker) (received : Option PlainSegment) (all kept : List Exchange) (o : Outcome)
    → (h : HasItsPage pages a (met received (segment_of m o.connection o.step) ∷ kept)) → h.ends.place ≡ 0 → 0 < o.connection.acked →
    Confirmed (met received (segment_of m o.connection o.step) ∷ all) o.connection
    → HasAcknowledged (met received (segment_of m o.connection o.step) ∷ all) h.ends.segment.seq
acked_before m pages a received all kept o h first some by = elim by [
  | inl z ↦ absurd (omega (arith, some, z))
  | inr k ↦ subst (λ n. HasAcknowledged (met received (segment_of m o.connection o.step) ∷ all) n)
      (sym (sent_seq m o.connection o.step h.ends.segment (subst (λ j. sent_at (met received (segment_of m o.connection o.step) ∷ kept) j
      ≡ Some h.ends.segment) first h.ends.output))) k
]

-- ---- the connection of the peer

-- A slot has the connection with the peer. What it has received and sent is what these exchanges show, and at most a segment is outstanding.
pub record HasConnection (a : Asker) (p : Sockets) (before : List Exchange) (n : AbstractNode) : Type 0 where
  pub slot : ℕ
  pub connection : Connection
  pub there : slice_get n.connections slot ≡ Some connection
  pub serves : serves p connection ≡ true
  pub rcv_nxt : rcv_nxt connection ≡ expected_next a before
  pub snd_nxt : wrap (snd_una connection + connection.len) ≡ sent_next a before
  pub len : connection.len < 65536
  pub early : is_time_wait connection.state ≡ false

-- what a guard may drop for this peer: no next segment of it
abbrev pub IsLosable : Asker → Sockets → Event → AbstractNode → Type 0
IsLosable a p e n = (before : List Exchange) (x : Exchange) → HasConnection a p before n → x.received ≡ received_from p e → SendsNext a x before → ⊥

-- The events of the node are of a line, changes leave numbers of 32 bits such, and what is dropped may be lost.
abbrev pub AreGuarded : AppSpec → (ℕ → Bool) → Addr → Asker → Sockets → List WireStep → AbstractNode → Type 0
AreGuarded m ports own a p [] n = Unit {0}
AreGuarded m ports own a p (OnNode e ∷ es) n = IsOfLine own e × AreGuarded m ports own a p es (step m ports n e).node
AreGuarded m ports own a p (Sets change ∷ es) n =
    ((numbers : List ℕ) → All IsU32 numbers → All IsU32 (change numbers)) × AreGuarded m ports own a p es (changed change n)
AreGuarded m ports own a p (Drops e ∷ es) n = IsLosable a p e n × AreGuarded m ports own a p es n

-- with no guard
pub none_dropped : (m : AppSpec) (ports : ℕ → Bool) (own : Addr) (a : Asker) (p : Sockets) (steps : List LineStep) (n : AbstractNode)
    → All (IsStep own) steps → AreGuarded m ports own a p (map unguarded steps) n
none_dropped m ports own a p [] n of = tt
none_dropped m ports own a p (OfNode e ∷ steps) n of =
    (All-head (IsStep own) (OfNode e) steps of, none_dropped m ports own a p steps (step m ports n e).node (All-tail (IsStep own) (OfNode e) steps of))
none_dropped m ports own a p (Changes change ∷ steps) n of = (
  All-head (IsStep own) (Changes change) steps of,
  none_dropped m ports own a p steps (changed change n) (All-tail (IsStep own) (Changes change) steps of),
)

-- ---- the page, seen in all exchanges

-- what was sent among the fresh exchanges was sent among all
in_all : (pages : Pages) (a : Asker) (x : Exchange) (all kept : List Exchange) → has_of a.iss all ≡ has_of a.iss kept
    → (h : HasItsPage pages a (x ∷ kept)) → h.ends.place ≡ 0 → HasAcknowledged (x ∷ all) h.ends.segment.seq → All IsWithoutReset (x ∷ all)
    → Arrives pages a (x ∷ all)
in_all pages a x all kept same h first acked clean = record {
  page = record {
    snapshots = h.snapshots;
    in_range = h.in_range;
    whole = h.whole;
    ends = record {
      place = 0;
      segment = h.ends.segment;
      output = subst (λ k. sent_at (x ∷ kept) k ≡ Some h.ends.segment) first h.ends.output;
      fin = h.ends.fin;
      seq = h.ends.seq;
    };
    complete = has_on a.iss x all ∙ ap (λ got. option_map_or (λ s. Rattle.node_laws.specs.Receivers.takes_next a.iss got s) x.output got)
        same ∙ sym (has_on a.iss x kept)
        ∙ subst (λ k. receives_all a.iss (drop k (x ∷ kept)) ≡ pages.page a.request h.snapshots) first h.complete;
  };
  acknowledged = acked;
  unreset = clean;
}

-- the page stays sent
stays_sent : (pages : Pages) (a : Asker) (x : Exchange) (incarnation : List Exchange) → Arrives pages a incarnation → Arrives pages a (x ∷ incarnation)
stays_sent pages a x incarnation h = record {
  page = record {
    snapshots = h.page.snapshots;
    in_range = h.page.in_range;
    whole = h.page.whole;
    ends = record { place = suc h.page.ends.place; segment = h.page.ends.segment; output = h.page.ends.output; fin = h.page.ends.fin; seq = h.page.ends.seq };
    complete = h.page.complete;
  };
  acknowledged = h.acknowledged;
  unreset = h.unreset;
}

module _ (m : AppSpec) (pages : Pages) (here : AppState → Bool) (serves_port : ℕ → Bool) (p : Sockets)
    (lawful : Paging m pages p.own_port.0 here) (a : Asker) (room : 0 < a.mss) (low : a.mss < 65536) (fine : ℕ → AppState → Bool)
    (left : AppState → ℕ) (texts patience : ℕ) (answering : Answering m p.own_port.0 here a.request a.mss fine left texts patience) where
  abbrev At : ℕ → List Exchange → Connection → Type 0
  At polls incarnation c = Stage m pages here p lawful a room fine left texts patience answering polls incarnation c

  -- the connection with the peer is in a slot, and this number of calls is still allowed
  pub record Living (n : AbstractNode) (incarnation kept : List Exchange) (rest : List TraceEntry) : Type 0 where
    i : ℕ
    c : Connection
    there : slice_get n.connections i ≡ Some c
    polls : ℕ
    few : polls ≤ patience
    can_wait : (text_received kept ≡ a.request) ⊎ (polls + calls_of i rest ≤ patience)
    stage : At polls kept c
    same : has_of a.iss incarnation ≡ has_of a.iss kept
    clean : All IsWithoutReset incarnation
    unfinished : All IsWithoutFin incarnation
    confirmed : Confirmed incarnation c

  pub data Representing (n : AbstractNode) (incarnation : List Exchange) (rest : List TraceEntry) : Type 0 where
    incarnations : (kept : List Exchange) → fresh a incarnation ≡ kept → Living n incarnation kept rest → Representing n incarnation rest
    over : Arrives pages a incarnation → Representing n incarnation rest

  -- the same while the SYN-ACK awaits its acknowledgement
  record Opened (n : AbstractNode) (incarnation kept : List Exchange) : Type 0 where
    i : ℕ
    c : Connection
    there : slice_get n.connections i ≡ Some c
    stage : At 0 kept c
    is_syn : c.state ≡ SynRcvd
    same : has_of a.iss incarnation ≡ has_of a.iss kept
    clean : All IsWithoutReset incarnation
    unfinished : All IsWithoutFin incarnation
    confirmed : Confirmed incarnation c

  data Opening (n : AbstractNode) (incarnation : List Exchange) : Type 0 where
    opened : (kept : List Exchange) → fresh a incarnation ≡ kept → Opened n incarnation kept → Opening n incarnation
    arrived : Arrives pages a incarnation → Opening n incarnation

  -- then it asks
  asking_from : (n : AbstractNode) (incarnation : List Exchange) (asking : List TraceEntry) → ((slot : ℕ) → calls_of slot asking ≤ patience)
      → Opening n incarnation → Representing n incarnation asking
  asking_from n incarnation asking prompt s = elim s [
    | opened kept e v ↦ incarnations kept e record {
      i = v.i;
      c = v.c;
      there = v.there;
      polls = 0;
      few = omega arith;
      can_wait = inr (let z = prompt v.i in omega (arith, z));
      stage = v.stage;
      same = v.same;
      clean = v.clean;
      unfinished = v.unfinished;
      confirmed = v.confirmed;
    }
    | arrived reported ↦ over reported
  ]

  -- the connection of the peer in this slot
  connection_of : (n : AbstractNode) (i : ℕ) (c : Connection) (polls : ℕ) (kept : List Exchange) → slice_get n.connections i ≡ Some c
      → At polls kept c → HasConnection a p kept n
  connection_of n i c polls kept there stage = record {
    slot = i;
    connection = c;
    there = there;
    serves = stage_serves m pages here p lawful a room fine left texts patience answering polls kept c stage;
    rcv_nxt = expects m pages here p lawful a room fine left texts patience answering polls kept c stage;
    snd_nxt = has_sent m pages here p lawful a room fine left texts patience answering polls kept c stage;
    len = (let l = few_out m pages here p lawful a room fine left texts patience answering polls kept c stage in omega (arith, l, low));
    early = stage_stays m pages here p lawful a room fine left texts patience answering polls kept c stage;
  }

  -- ---- the connection stays as it is

  adds_none : (c : Connection) (incarnation : List Exchange) (output : Option PlainSegment)
      → ((t : PlainSegment) → output ≡ Some t → t ≡ bare_ack c)
      → option_map_or (λ s. Rattle.node_laws.specs.Receivers.takes_next a.iss (has_of a.iss incarnation) s) output
      (has_of a.iss incarnation) ≡ has_of a.iss incarnation
  adds_none c incarnation None b = refl
  adds_none c incarnation (Some t) b = nothing_more a.iss (has_of a.iss incarnation) t (ap (λ (u : PlainSegment). u.text) (b t refl))

  -- at most a bare ACK is sent in answer to a segment without RST
  unreset_by : (c : Connection) (s : PlainSegment) (output : Option PlainSegment) → has_rst s.flags ≡ false
      → ((t : PlainSegment) → output ≡ Some t → t ≡ bare_ack c) → IsWithoutReset (met (Some s) output)
  unreset_by c s output unreset bare = record {
    received = λ t z. only_some (λ (u : PlainSegment). has_rst u.flags ≡ false) s t z unreset;
    output = λ t z. subst (λ (u : PlainSegment). has_rst u.flags ≡ false) (sym (bare t z)) refl;
  }

  no_fin_by : (c : Connection) (s : PlainSegment) (output : Option PlainSegment) → ((t : PlainSegment) → output ≡ Some t → t ≡ bare_ack c)
      → IsWithoutFin (met (Some s) output)
  no_fin_by c s output bare t z = subst (λ (u : PlainSegment). has_fin u.flags ≡ false) (sym (bare t z)) refl

  quiet_unreset : IsWithoutReset quiet
  quiet_unreset = record { received = λ s z. absurd (cc); output = λ s z. absurd (cc) }

  quiet_no_fin : IsWithoutFin quiet
  quiet_no_fin s z = absurd (cc)

  -- from one node to another in which the connection is the same
  module _ (n d : AbstractNode) (y : Exchange) (older kept : List Exchange) (is_kept : fresh a (y ∷ older) ≡ kept) where
    -- nothing passes
    passes : (t : TraceEntry) (rest : List TraceEntry) (v : Living n (y ∷ older) kept (t ∷ rest)) → slice_get d.connections v.i ≡ Some v.c
        → Representing d (quiet ∷ y ∷ older) rest
    passes t rest v there =
        let more : calls_of v.i rest ≤ calls_of v.i (t ∷ rest) = calls_more v.i t rest in
        incarnations (quiet ∷ kept) (ap (λ k. with_fresh a quiet k) is_kept) record {
          i = v.i;
          c = v.c;
          there = there;
          polls = v.polls;
          few = v.few;
          can_wait = elim v.can_wait [ inl w ↦ inl (append_nothing (text_received kept) ∙ w) | inr w ↦ inr (omega (arith, w, more)) ];
          stage = stage_quiet m pages here p lawful a room fine left texts patience answering v.polls kept v.c v.stage;
          same = has_on a.iss quiet (y ∷ older) ∙ v.same ∙ sym (has_on a.iss quiet kept);
          clean = All-cons IsWithoutReset quiet (y ∷ older) quiet_unreset v.clean;
          unfinished = All-cons IsWithoutFin quiet (y ∷ older) quiet_no_fin v.unfinished;
          confirmed = still_confirmed quiet (y ∷ older) v.c v.confirmed;
        }

    -- a stale segment is received
    discarded : (t : TraceEntry) (rest : List TraceEntry) (v : Living n (y ∷ older) kept (t ∷ rest)) → slice_get d.connections v.i ≡ Some v.c
        → (s : PlainSegment) (output : Option PlainSegment) → has_rst s.flags ≡ false
        → ((u : PlainSegment) → output ≡ Some u → u ≡ bare_ack v.c) → is_stale a kept s ≡ true
        → Representing d (met (Some s) output ∷ y ∷ older) rest
    discarded t rest v there s output unreset bare stale =
        let sent : Exchange = met (Some s) output in
        let more : calls_of v.i rest ≤ calls_of v.i (t ∷ rest) = calls_more v.i t rest in
        incarnations kept (ap (λ k. with_fresh a sent k) is_kept ∙ ap (λ b. if b then kept else sent ∷ kept) stale) record {
          i = v.i;
          c = v.c;
          there = there;
          polls = v.polls;
          few = v.few;
          can_wait = elim v.can_wait [ inl w ↦ inl w | inr w ↦ inr (omega (arith, w, more)) ];
          stage = v.stage;
          same = has_on a.iss sent (y ∷ older) ∙ adds_none v.c (y ∷ older) output bare ∙ v.same;
          clean = All-cons IsWithoutReset sent (y ∷ older) (unreset_by v.c s output unreset bare) v.clean;
          unfinished = All-cons IsWithoutFin sent (y ∷ older) (no_fin_by v.c s output bare) v.unfinished;
          confirmed = still_confirmed sent (y ∷ older) v.c v.confirmed;
        }

    -- the same while the SYN-ACK awaits its acknowledgement
    open_passes : (v : Opened n (y ∷ older) kept) → slice_get d.connections v.i ≡ Some v.c → Opening d (quiet ∷ y ∷ older)
    open_passes v there = opened (quiet ∷ kept) (ap (λ k. with_fresh a quiet k) is_kept) record {
      i = v.i;
      c = v.c;
      there = there;
      is_syn = v.is_syn;
      stage = stage_quiet m pages here p lawful a room fine left texts patience answering 0 kept v.c v.stage;
      same = has_on a.iss quiet (y ∷ older) ∙ v.same ∙ sym (has_on a.iss quiet kept);
      clean = All-cons IsWithoutReset quiet (y ∷ older) quiet_unreset v.clean;
      unfinished = All-cons IsWithoutFin quiet (y ∷ older) quiet_no_fin v.unfinished;
      confirmed = still_confirmed quiet (y ∷ older) v.c v.confirmed;
    }

    open_discarded : (v : Opened n (y ∷ older) kept) → slice_get d.connections v.i ≡ Some v.c → (s : PlainSegment) (output : Option PlainSegment)
        → has_rst s.flags ≡ false → ((u : PlainSegment) → output ≡ Some u → u ≡ bare_ack v.c) → is_stale a kept s ≡ true
        → Opening d (met (Some s) output ∷ y ∷ older)
    open_discarded v there s output unreset bare stale =
        let sent : Exchange = met (Some s) output in
        opened kept (ap (λ k. with_fresh a sent k) is_kept ∙ ap (λ b. if b then kept else sent ∷ kept) stale) record {
          i = v.i;
          c = v.c;
          there = there;
          is_syn = v.is_syn;
          stage = v.stage;
          same = has_on a.iss sent (y ∷ older) ∙ adds_none v.c (y ∷ older) output bare ∙ v.same;
          clean = All-cons IsWithoutReset sent (y ∷ older) (unreset_by v.c s output unreset bare) v.clean;
          unfinished = All-cons IsWithoutFin sent (y ∷ older) (no_fin_by v.c s output bare) v.unfinished;
          confirmed = still_confirmed sent (y ∷ older) v.c v.confirmed;
        }

  -- ---- a guard drops the event

  abbrev lost : Event → Exchange
  lost e = exchange p e None

  -- what comes is nothing, or stale
  lost_as : (P : Exchange → Type 0) (e : Event) (kept : List Exchange) → Goes a (lost e) kept → (SendsNext a (lost e) kept → ⊥) → P quiet
      → ((s : PlainSegment) → has_rst s.flags ≡ false → is_stale a kept s ≡ true → P (met (Some s) None)) → P (lost e)
  lost_as P e kept goes far none some = elim goes [
    | waits_for is q ↦ subst P (sym (ap (λ (r : Option PlainSegment). met r None) is)) none
    | brings_next k ↦ absurd (far k)
    | brings_stale k ↦ subst P (sym (ap (λ (r : Option PlainSegment). met r None) k.received)) (some k.segment k.rst k.stale)
  ]

  represents_lost : (e : Event) (n : AbstractNode) (y : Exchange) (older : List Exchange) (t : TraceEntry) (rest : List TraceEntry)
      → IsLosable a p e n → Goes a (lost e) (fresh a (y ∷ older)) → Representing n (y ∷ older) (t ∷ rest)
      → Representing n (lost e ∷ y ∷ older) rest
  represents_lost e n y older t rest losable goes s = elim s [
    | incarnations kept k v ↦ lost_as (λ z. Representing n (z ∷ y ∷ older) rest) e kept (subst (λ f. Goes a (lost e) f) k goes)
        (losable kept (lost e) (connection_of n v.i v.c v.polls kept v.there v.stage) refl)
        (passes n n y older kept k t rest v v.there)
        (λ u unreset stale. discarded n n y older kept k t rest v v.there u None unreset (λ w z. absurd (cc)) stale)
    | over reported ↦ over (stays_sent pages a (lost e) (y ∷ older) reported)
  ]

  opening_lost : (e : Event) (n : AbstractNode) (y : Exchange) (older : List Exchange)
      → IsLosable a p e n → Goes a (lost e) (fresh a (y ∷ older)) → Opening n (y ∷ older) → Opening n (lost e ∷ y ∷ older)
  opening_lost e n y older losable goes s = elim s [
    | opened kept k v ↦ lost_as (λ z. Opening n (z ∷ y ∷ older)) e kept (subst (λ f. Goes a (lost e) f) k goes)
        (losable kept (lost e) (connection_of n v.i v.c 0 kept v.there v.stage) refl)
        (open_passes n n y older kept k v v.there)
        (λ u unreset stale. open_discarded n n y older kept k v v.there u None unreset (λ w z. absurd (cc)) stale)
    | arrived reported ↦ arrived (stays_sent pages a (lost e) (y ∷ older) reported)
  ]

  module _ (n : AbstractNode) (event : Event) (good : Good n) (y : Exchange) (older : List Exchange) (rest : List TraceEntry) where
    abbrev r : NodeStep
    r = step m serves_port n event

    abbrev x : Exchange
    x = exchange p event r.sent

    abbrev turn : TraceEntry
    turn = record { event = event; sent = r.sent }

    abbrev incarnation : List Exchange
    incarnation = y ∷ older

    abbrev After : Exchange → Type 0
    After z = Representing r.node (z ∷ incarnation) rest

    snapshots : (i : ℕ) (c : Connection) (o : Outcome) → slice_get n.connections i ≡ Some c → Rattle.uip_node.proofs.Fits.FitOut o
        → Snapshots m pages here p lawful a room fine left texts patience answering (snapshot n event i) o
    snapshots i c o there f = record {
      is = node_snapshot m lawful.steady n event i good.fit o.connection f.conn;
      rows = λ z l. rows_some 0 n.connections i c z there l;
      fit = f;
    }

    stepped : (i : ℕ) (c d : Connection) → slice_get n.connections i ≡ Some c → r.node.connections ≡ set n.connections i d
        → slice_get r.node.connections i ≡ Some d
    stepped i c d there e = ap (λ l. slice_get l i) e ∙ get_set_same n.connections i c d there

    -- a connection that continues has sent no RST
    live_stage : (polls : ℕ) (kept : List Exchange) (c : Connection) → At polls kept c → is_live c.state ≡ true
    live_stage polls kept c h = (and_true (is_live c.state) (same_sockets c.sockets p) (stage_serves m pages here p lawful a room fine left
        texts patience answering polls kept c h)).0

    one_more : (z : Exchange) → IsWithoutReset z → All IsWithoutReset incarnation → All IsWithoutReset (z ∷ incarnation)
    one_more z h all = All-cons IsWithoutReset z incarnation h all

    no_fin_more : (z : Exchange) (kept : List Exchange) → ends_now (z ∷ kept) ≡ false → All IsWithoutFin incarnation → All IsWithoutFin (z ∷ incarnation)
    no_fin_more z kept e all = All-cons IsWithoutFin z incarnation
        (λ s o. (sym (ap (λ (k : Option PlainSegment). option_map_or (λ s. has_fin s.flags) k false) o) ∙ e)) all

    more_has : (z : Exchange) (kept : List Exchange) → has_of a.iss incarnation ≡ has_of a.iss kept → has_of a.iss (z ∷ incarnation) ≡ has_of a.iss (z ∷ kept)
    more_has z kept e = has_on a.iss z incarnation ∙ ap (λ got. option_map_or (λ s. Rattle.node_laws.specs.Receivers.takes_next a.iss got s)
        z.output got) e ∙ sym (has_on a.iss z kept)

    module _ (kept : List Exchange) (is_kept : fresh a incarnation ≡ kept) where
      -- the slot is called
      at_call : (v : Living n incarnation kept (turn ∷ rest)) → event ≡ Periodic v.i → Acted m serves_port n p v.i v.c event r None
          (asked m (snapshot n event v.i) (on_tick m v.c n.numbers)) → InTime x kept → Representing r.node (x ∷ incarnation) rest
      at_call v e g q =
          let at = snapshot n event v.i in
          let o : Outcome = asked m at (on_tick m v.c n.numbers) in
          let sent : Exchange = met None (segment_of m o.connection o.step) in
          let keeps : 0 < v.c.len → (u : PlainSegment) → segment_of m o.connection o.step ≡ Some u → has_rst u.flags ≡ false =
          λ some. elim q [
            | kept_on none ↦ (λ u z. none u (ap (λ w. w.output) g.exchanged ∙ z))
            | tries_left more ↦ keeps_in_time m pages here p lawful a room fine left texts patience answering v.polls at n.numbers kept v.c more some v.stage
          ] in
          let calls : calls_of v.i (turn ∷ rest) ≡ calls_of v.i rest + 1 = calls_one v.i turn rest e in
          let may : (v.c.state ≡ SynRcvd → ⊥) → (text_received kept ≡ a.request → ⊥) → v.polls < patience = λ s z. elim v.can_wait [
            | inl w ↦ absurd (z w)
            | inr w ↦ omega (arith, w, calls)
          ] in
          let h = called m pages here p lawful a room fine left texts patience answering v.polls v.few at n.numbers kept v.c may
          (good.fit.conns v.i v.c v.there).snapshots
          (snapshots v.i v.c (on_tick m v.c n.numbers) v.there (on_tick_fits m lawful.steady v.c n.numbers (good.fit.conns v.i v.c v.there)
          good.fit.numbers)) keeps v.stage in
          let clean : is_live o.connection.state ≡ true → All IsWithoutReset (sent ∷ incarnation) =
          λ l. one_more sent record {
            received = λ s z. absurd (cc);
            output = λ s z. both_ways (has_rst s.flags) (λ f. absurd (let w = tick_reset_ends m at v.c n.numbers s z f in cc)) (λ f. f);
          } v.clean in
          let confirmed : Confirmed (sent ∷ incarnation) o.connection = confirmed_on false sent incarnation v.c o.connection
          (asked_moves m false v.c at (on_tick m v.c n.numbers) (tick_moves m v.c n.numbers)) (λ e. absurd (cc)) v.confirmed in
          let now_kept : fresh a (sent ∷ incarnation) ≡ sent ∷ kept = ap (λ k. with_fresh a sent k) is_kept in
          subst After (sym g.exchanged) (elim h.next [
            | ends_so reported first live some ↦ over (in_all pages a sent incarnation kept v.same reported first
                (acked_before m pages a None incarnation kept o reported first some confirmed) (clean live))
            | goes_on_so goes stage ↦ incarnations (sent ∷ kept) now_kept record {
              i = v.i;
              c = o.connection;
              there = stepped v.i v.c o.connection v.there g.table;
              polls = h.now;
              few = h.most;
              can_wait = elim v.can_wait [
                | inl w ↦ inl (append_nothing (text_received kept) ∙ w)
                | inr w ↦ inr (let l = h.least in omega (arith, w, calls, l))
              ];
              stage = stage;
              same = more_has sent kept v.same;
              clean = clean (live_stage h.now (sent ∷ kept) o.connection stage);
              unfinished = no_fin_more sent kept goes v.unfinished;
              confirmed = confirmed;
            }
          ])

      -- the next segment of the peer comes
      at_segment : (v : Living n incarnation kept (turn ∷ rest)) (s : PlainSegment) → Acted m serves_port n p v.i v.c event r (Some s)
          (asked m (snapshot n event v.i) (on_segment m v.c n.numbers s)) → SendsNext a x kept → Representing r.node (x ∷ incarnation) rest
      at_segment v s g h =
          let at = snapshot n event v.i in
          let o : Outcome = asked m at (on_segment m v.c n.numbers s) in
          let sent : Exchange = met (Some s) (segment_of m o.connection o.step) in
          let received : Some s ≡ Some h.segment = sym (ap (λ z. z.received) g.exchanged) ∙ h.received in
          let same : h.segment ≡ s = (let z : s ≡ h.segment = cc in sym z) in
          let next : SendsNext a (met (Some s) None) kept = record {
            segment = h.segment;
            received = received;
            syn = h.syn;
            fin = h.fin;
            rst = h.rst;
            acks = h.acks;
            seq = h.seq;
            part = h.part;
            ack = h.ack;
            window = h.window;
            some = h.some;
          } in
          let sent_next : SendsNext a sent kept = record {
            segment = h.segment;
            received = received;
            syn = h.syn;
            fin = h.fin;
            rst = h.rst;
            acks = h.acks;
            seq = h.seq;
            part = h.part;
            ack = h.ack;
            window = h.window;
            some = h.some;
          } in
          let unreset : has_rst s.flags ≡ false = ap (λ t. has_rst t.flags) (sym same) ∙ h.rst in
          let prefix : IsPrefixOf (text_received kept ++ s.text) a.request = subst (λ t. IsPrefixOf (text_received kept ++ t.text) a.request) same h.part in
          let more : calls_of v.i rest ≤ calls_of v.i (turn ∷ rest) = calls_more v.i turn rest in
          let clean : is_live o.connection.state ≡ true → All IsWithoutReset (sent ∷ incarnation) =
          λ l. one_more sent record {
            received = λ t z. only_some (λ (u : PlainSegment). has_rst u.flags ≡ false) s t z unreset;
            output = λ t z. both_ways (has_rst t.flags) (λ f. absurd (let w = reset_ends m at v.c n.numbers s t z f in cc)) (λ f. f);
          } v.clean in
          let acked : Bool = not (has_rst s.flags) && is_acked v.c s in
          let confirmed : Confirmed (sent ∷ incarnation) o.connection = confirmed_on acked sent incarnation v.c o.connection
          (asked_moves m acked v.c at (on_segment m v.c n.numbers s) (segment_moves m v.c n.numbers s))
          (acks_by v.c s (segment_of m o.connection o.step)) v.confirmed in
          let now_kept : fresh a (sent ∷ incarnation) ≡ sent ∷ kept = ap (λ k. with_fresh a sent k) is_kept ∙ keeps_fresh a sent kept sent_next in
          let k = answered m pages here p lawful a room fine left texts patience answering v.polls v.few at n.numbers s kept v.c next same
          (snapshots v.i v.c (on_segment m v.c n.numbers s) v.there (on_segment_fits m lawful.steady v.c n.numbers s
          (good.fit.conns v.i v.c v.there) good.fit.numbers)) v.stage in
          subst After (sym g.exchanged) (elim k [
            | goes_on_so goes stage ↦ incarnations (sent ∷ kept) now_kept record {
              i = v.i;
              c = o.connection;
              there = stepped v.i v.c o.connection v.there g.table;
              polls = v.polls;
              few = v.few;
              can_wait = elim v.can_wait [ inl w ↦ inl (nothing_after (text_received kept) s.text a.request w prefix) | inr w ↦ inr (omega (arith, w, more)) ];
              stage = stage;
              same = more_has sent kept v.same;
              clean = clean (live_stage v.polls (sent ∷ kept) o.connection stage);
              unfinished = no_fin_more sent kept goes v.unfinished;
              confirmed = confirmed;
            }
            | ends_so reported first live some ↦ over (in_all pages a sent incarnation kept v.same reported first
                (acked_before m pages a (Some s) incarnation kept o reported first some confirmed) (clean live))
          ])

      -- a stale one comes: the connection stays, and at most a bare ACK is sent
      at_stale : (v : Living n incarnation kept (turn ∷ rest)) (s : PlainSegment) → Acted m serves_port n p v.i v.c event r (Some s)
          (asked m (snapshot n event v.i) (on_segment m v.c n.numbers s)) → ReceivesStale a x kept → Representing r.node (x ∷ incarnation) rest
      at_stale v s g h =
          let at = snapshot n event v.i in
          let received : Some s ≡ Some h.segment = sym (ap (λ z. z.received) g.exchanged) ∙ h.received in
          let same : h.segment ≡ s = (let z : s ≡ h.segment = cc in sym z) in
          let unreset : has_rst s.flags ≡ false = subst (λ (t : PlainSegment). has_rst t.flags ≡ false) same h.rst in
          let stale : is_stale a kept s ≡ true = subst (λ (t : PlainSegment). is_stale a kept t ≡ true) same h.stale in
          let window : occupies_sequence_space s ≡ false → a.mss ≤ s.window = subst (λ (t : PlainSegment). occupies_sequence_space t ≡ false
          → a.mss ≤ t.window) same h.window in
          let P : Outcome → Type 0 = λ o. r.node.connections ≡ set n.connections v.i (asked m at o).connection
          → Representing r.node (met (Some s) (segment_of m (asked m at o).connection (asked m at o).step) ∷ incarnation) rest in
          let done : P (on_segment m v.c n.numbers s) = elim (discards m pages here p lawful a room fine left texts patience answering
          v.polls n.numbers s kept v.c unreset stale window v.stage) [
            | with_ack e ↦ subst P (sym e) (λ table. discarded n r.node y older kept is_kept turn rest v (stepped v.i v.c v.c v.there table) s
                (Some (bare_ack v.c)) unreset
                (λ t z. (let w : bare_ack v.c ≡ t = only_some (λ (u : PlainSegment). bare_ack v.c ≡ u) (bare_ack v.c) t z refl in sym w)) stale)
            | silently e ↦ subst P (sym e) (λ table. discarded n r.node y older kept is_kept turn rest v (stepped v.i v.c v.c v.there table) s
                None unreset (λ t z. absurd (cc)) stale)
          ] in
          subst After (sym g.exchanged) (done g.table)

      -- the event is another's
      at_other : (v : Living n incarnation kept (turn ∷ rest)) → slice_get r.node.connections v.i ≡ Some v.c → x ≡ quiet
          → Representing r.node (x ∷ incarnation) rest
      at_other v there e = subst After (sym e) (passes n r.node y older kept is_kept turn rest v there)

      at_living : (v : Living n incarnation kept (turn ∷ rest)) → Goes a x kept → Representing r.node (x ∷ incarnation) rest
      at_living v h =
          elim (acts m serves_port n p v.i v.c good.single v.there (stage_serves m pages here p lawful a room fine left texts patience
          answering v.polls kept v.c v.stage) event) [
            | is_called e g ↦ elim h [
              | waits_for none q ↦ at_call v e g q
              | brings_next s ↦ absurd (let z : None ≡ Some s.segment = sym (ap (λ z. z.received) g.exchanged) ∙ s.received in cc)
              | brings_stale s ↦ absurd (let z : None ≡ Some s.segment = sym (ap (λ z. z.received) g.exchanged) ∙ s.received in cc)
            ]
            | is_met s e g ↦ elim h [
              | waits_for none q ↦ absurd (let z : Some s ≡ None = sym (ap (λ z. z.received) g.exchanged) ∙ none in cc)
              | brings_next k ↦ at_segment v s g k
              | brings_stale k ↦ at_stale v s g k
            ]
            | is_apart far e there ↦ at_other v there e
            | makes_room e rested none ↦ absurd (let z = stage_stays m pages here p lawful a room fine left texts patience answering v.polls
                kept v.c v.stage in cc)
          ]

    abbrev AfterOpening : Exchange → Type 0
    AfterOpening z = Opening r.node (z ∷ incarnation)

    module _ (kept : List Exchange) (is_kept : fresh a incarnation ≡ kept) where
      -- the same while the SYN-ACK awaits its acknowledgement: the slot is called
      open_call : (v : Opened n incarnation kept) → event ≡ Periodic v.i → Acted m serves_port n p v.i v.c event r None
          (asked m (snapshot n event v.i) (on_tick m v.c n.numbers)) → InTime x kept → Opening r.node (x ∷ incarnation)
      open_call v e g q =
          let at = snapshot n event v.i in
          let o : Outcome = asked m at (on_tick m v.c n.numbers) in
          let sent : Exchange = met None (segment_of m o.connection o.step) in
          let keeps : 0 < v.c.len → (u : PlainSegment) → segment_of m o.connection o.step ≡ Some u → has_rst u.flags ≡ false =
          λ some. elim q [
            | kept_on none ↦ (λ u z. none u (ap (λ w. w.output) g.exchanged ∙ z))
            | tries_left more ↦ keeps_in_time m pages here p lawful a room fine left texts patience answering 0 at n.numbers kept v.c more some v.stage
          ] in
          let may : (v.c.state ≡ SynRcvd → ⊥) → (text_received kept ≡ a.request → ⊥) → 0 < patience = λ s z. absurd (s v.is_syn) in
          let out = syn_out m pages here p lawful a room fine left texts patience answering 0 kept v.c v.is_syn v.stage in
          let still : o.connection.state ≡ SynRcvd = syn_stays m pages here p lawful a room fine left texts patience answering 0 at
          n.numbers kept v.c v.is_syn (keeps out.0) v.stage in
          let h = called m pages here p lawful a room fine left texts patience answering 0 (omega arith) at n.numbers kept v.c may
          (good.fit.conns v.i v.c v.there).snapshots
          (snapshots v.i v.c (on_tick m v.c n.numbers) v.there (on_tick_fits m lawful.steady v.c n.numbers (good.fit.conns v.i v.c v.there)
          good.fit.numbers)) keeps v.stage in
          let clean : is_live o.connection.state ≡ true → All IsWithoutReset (sent ∷ incarnation) =
          λ l. one_more sent record {
            received = λ s z. absurd (cc);
            output = λ s z. both_ways (has_rst s.flags) (λ f. absurd (let w = tick_reset_ends m at v.c n.numbers s z f in cc)) (λ f. f);
          } v.clean in
          let confirmed : Confirmed (sent ∷ incarnation) o.connection = confirmed_on false sent incarnation v.c o.connection
          (asked_moves m false v.c at (on_tick m v.c n.numbers) (tick_moves m v.c n.numbers)) (λ e. absurd (cc)) v.confirmed in
          let now_kept : fresh a (sent ∷ incarnation) ≡ sent ∷ kept = ap (λ k. with_fresh a sent k) is_kept in
          subst AfterOpening (sym g.exchanged) (elim h.next [
            | ends_so reported first live some ↦ arrived (in_all pages a sent incarnation kept v.same reported first
                (acked_before m pages a None incarnation kept o reported first some confirmed) (clean live))
            | goes_on_so goes stage ↦ opened (sent ∷ kept) now_kept record {
              i = v.i;
              c = o.connection;
              there = stepped v.i v.c o.connection v.there g.table;
              stage = stage_at m pages here p lawful a room fine left texts patience answering h.now 0 (sent ∷ kept) o.connection still stage;
              is_syn = still;
              same = more_has sent kept v.same;
              clean = clean (live_stage h.now (sent ∷ kept) o.connection stage);
              unfinished = no_fin_more sent kept goes v.unfinished;
              confirmed = confirmed;
            }
          ])

      -- a stale one comes
      open_stale : (v : Opened n incarnation kept) (s : PlainSegment) → Acted m serves_port n p v.i v.c event r (Some s)
          (asked m (snapshot n event v.i) (on_segment m v.c n.numbers s)) → ReceivesStale a x kept → Opening r.node (x ∷ incarnation)
      open_stale v s g h =
          let at = snapshot n event v.i in
          let received : Some s ≡ Some h.segment = sym (ap (λ z. z.received) g.exchanged) ∙ h.received in
          let same : h.segment ≡ s = (let z : s ≡ h.segment = cc in sym z) in
          let unreset : has_rst s.flags ≡ false = subst (λ (t : PlainSegment). has_rst t.flags ≡ false) same h.rst in
          let stale : is_stale a kept s ≡ true = subst (λ (t : PlainSegment). is_stale a kept t ≡ true) same h.stale in
          let window : occupies_sequence_space s ≡ false → a.mss ≤ s.window = subst (λ (t : PlainSegment). occupies_sequence_space t ≡ false
          → a.mss ≤ t.window) same h.window in
          let P : Outcome → Type 0 = λ o. r.node.connections ≡ set n.connections v.i (asked m at o).connection
          → Opening r.node (met (Some s) (segment_of m (asked m at o).connection (asked m at o).step) ∷ incarnation) in
          let done : P (on_segment m v.c n.numbers s) = elim (discards m pages here p lawful a room fine left texts patience answering 0
          n.numbers s kept v.c unreset stale window v.stage) [
            | with_ack e ↦ subst P (sym e) (λ table. open_discarded n r.node y older kept is_kept v (stepped v.i v.c v.c v.there table) s
                (Some (bare_ack v.c)) unreset
                (λ t z. (let w : bare_ack v.c ≡ t = only_some (λ (u : PlainSegment). bare_ack v.c ≡ u) (bare_ack v.c) t z refl in sym w)) stale)
            | silently e ↦ subst P (sym e) (λ table. open_discarded n r.node y older kept is_kept v (stepped v.i v.c v.c v.there table) s
                None unreset (λ t z. absurd (cc)) stale)
          ] in
          subst AfterOpening (sym g.exchanged) (done g.table)

      -- the event is another's
      open_other : (v : Opened n incarnation kept) → slice_get r.node.connections v.i ≡ Some v.c → x ≡ quiet → Opening r.node (x ∷ incarnation)
      open_other v there e = subst AfterOpening (sym e) (open_passes n r.node y older kept is_kept v there)

      open_on_kept : (v : Opened n incarnation kept) → Goes a x kept → (SendsNext a x kept → ⊥) → Opening r.node (x ∷ incarnation)
      open_on_kept v h far =
          elim (acts m serves_port n p v.i v.c good.single v.there (stage_serves m pages here p lawful a room fine left texts patience
          answering 0 kept v.c v.stage) event) [
            | is_called e g ↦ elim h [
              | waits_for none q ↦ open_call v e g q
              | brings_next s ↦ absurd (far s)
              | brings_stale s ↦ absurd (let z : None ≡ Some s.segment = sym (ap (λ z. z.received) g.exchanged) ∙ s.received in cc)
            ]
            | is_met s e g ↦ elim h [
              | waits_for none q ↦ absurd (let z : Some s ≡ None = sym (ap (λ z. z.received) g.exchanged) ∙ none in cc)
              | brings_next k ↦ absurd (far k)
              | brings_stale k ↦ open_stale v s g k
            ]
            | is_apart away e there ↦ open_other v there e
            | makes_room e rested none ↦ absurd (let z = stage_stays m pages here p lawful a room fine left texts patience answering 0 kept v.c v.stage in cc)
          ]

    -- no next segment is received in the handshake
    not_next : (kept : List Exchange) → awaits_ack kept ≡ true → in_handshake (with_fresh a x kept) ≡ true → SendsNext a x kept → ⊥
    not_next [] w l s = absurd (cc)
    not_next (z ∷ zs) w l s =
        let ends : in_handshake (with_fresh a x (z ∷ zs)) ≡ false =
        ap (λ k. in_handshake k) (keeps_fresh a x (z ∷ zs) s) ∙ ap (λ (k : Option PlainSegment). if is_some k then false else in_handshake
        (z ∷ zs)) s.received in
        absurd (let both : false ≡ true = sym ends ∙ l in cc)

    opening_on : Goes a x (fresh a incarnation) → in_handshake (fresh a (x ∷ incarnation)) ≡ true → Opening n incarnation → Opening r.node (x ∷ incarnation)
    opening_on h limit s = elim s [
      | opened kept e v ↦ open_on_kept kept e v (subst (λ k. Goes a x k) e h)
          (not_next kept (syn_out m pages here p lawful a room fine left texts patience answering 0 kept v.c v.is_syn v.stage).1
          (ap (λ k. in_handshake (with_fresh a x k)) (sym e) ∙ limit))
      | arrived reported ↦ arrived (stays_sent pages a x incarnation reported)
    ]

    represents_on : Goes a x (fresh a incarnation) → Representing n incarnation (turn ∷ rest) → Representing r.node (x ∷ incarnation) rest
    represents_on h s = elim s [
      | incarnations kept e v ↦ at_living kept e v (subst (λ k. Goes a x k) e h)
      | over reported ↦ over (stays_sent pages a x incarnation reported)
    ]

  -- ---- the opening

  counts_by : (iss seq : ℕ) → seq ≡ wrap (iss + 0) → seq ≡ wrap a.iss → Counts m pages here p lawful a room fine left texts patience answering iss
  counts_by iss seq e f n =
      ap (λ k. wrap (k + n)) (let z : iss ≡ iss + 0 = omega arith in z) ∙ sym (wrap_wrap (iss + 0) n) ∙ ap (λ k. wrap (k + n)) (sym e ∙ f) ∙ wrap_wrap a.iss n

  opened_as : (iss : ℕ) (s : PlainSegment) → s.seq ≡ a.irs → first_mss s.mss ≡ a.mss
      → accepted iss p s ≡ conn_at m pages here p lawful a room fine left texts patience answering SynRcvd 0 iss 0 1 0 (accepted iss p s).part
  opened_as iss s e f =
      ap (λ k. record (accepted iss p s) { irs = k }) e
      ∙ ap (λ k. record (accepted iss p s) { irs = a.irs; initial_mss = k; mss = k }) f

  at_opening : (iss : ℕ) (s : PlainSegment) → is_plain_syn s ≡ true → s.text ≡ [] → AtSyn m pages here p lawful a room fine left texts
      patience answering (met (Some s) (Some (syn_ack (accepted iss p s))) ∷ [])
  at_opening iss s plain none = record {
    received = none;
    none = (let flags : s.flags ≡ SYN = eqb-eq s.flags SYN plain in
        ap (λ b. if b then 0 + 1 else 0) (ap (λ k. has_ack k && eqb (length s.text) 0) flags));
    has = has_on a.iss (met (Some s) (Some (syn_ack (accepted iss p s)))) [] ∙ nothing_more a.iss [] (syn_ack (accepted iss p s)) refl;
    limit = omega arith;
  }

  plain_unreset : (s : PlainSegment) → is_plain_syn s ≡ true → has_rst s.flags ≡ false
  plain_unreset s plain = ap (λ k. has_rst k) (eqb-eq s.flags SYN plain)

  module _ (n : AbstractNode) (event : Event) (is : IsEvent event) (good : Good n) where
    abbrev s_node : AbstractNode
    s_node = (step m serves_port n event).node

    abbrev first_exchange : Exchange
    first_exchange = exchange p event (step m serves_port n event).sent

    -- the connection is in its slot
    born_there : (iss : ℕ) (s : PlainSegment) → is_plain_syn s ≡ true → first_exchange ≡ met (Some s) (Some (syn_ack (accepted iss p s)))
        → serving p s_node.connections ≡ accepted iss p s → SendsSyn a first_exchange → Opening s_node (first_exchange ∷ [])
    born_there iss s plain e f o =
        let received : Some o.syn ≡ Some s = sym o.received ∙ ap (λ z. z.received) e in
        let syn : o.syn ≡ s = cc in
        let answer : Some o.answer ≡ Some (syn_ack (accepted iss p s)) = sym o.output ∙ ap (λ z. z.output) e in
        let answers : o.answer ≡ syn_ack (accepted iss p s) = cc in
        let k : Counts m pages here p lawful a room fine left texts patience answering iss = counts_by iss o.answer.seq (ap (λ t. t.seq) answers) o.seq in
        let as_it_is = f ∙ opened_as iss s (ap (λ t. t.seq) (sym syn) ∙ o.number) (ap (λ t. first_mss t.mss) (sym syn) ∙ o.mss) in
        let first : Exchange = met (Some s) (Some (syn_ack (accepted iss p s))) in
        elim (is_served p s_node.connections) [
          | served i there own ↦ subst (λ z. Opening s_node (z ∷ [])) (sym e) (opened (first ∷ []) refl record {
            i = i;
            c = serving p s_node.connections;
            there = there;
            is_syn = ap (λ (z : Connection). z.state) f;
            stage = at_syn iss 0 (accepted iss p s).part k as_it_is (at_opening iss s plain (ap (λ t. t.text) (sym syn) ∙ o.text))
                (timed_syn s (syn_ack (accepted iss p s)) refl);
            same = refl;
            clean = All-cons IsWithoutReset first [] record {
              received = λ t z. only_some (λ (u : PlainSegment). has_rst u.flags ≡ false) s t z (plain_unreset s plain);
              output = λ t z. only_some (λ (u : PlainSegment). has_rst u.flags ≡ false) (syn_ack (accepted iss p s)) t z refl;
            } (All-nil IsWithoutReset);
            unfinished = All-cons IsWithoutFin first [] (λ t z. only_some (λ (u : PlainSegment). has_fin u.flags ≡ false)
                (syn_ack (accepted iss p s)) t z refl) (All-nil IsWithoutFin);
            confirmed = inl (ap (λ (z : Connection). z.acked) f);
          })
          | free none ↦ absurd (let z : closed ≡ accepted iss p s = sym (Rattle.uip_node.proofs.Connections.serving_free s_node.connections
              p none) ∙ f in let y : false ≡ true = ap (λ c. is_live c.state) z in cc)
        ]

    opens : SendsSyn a first_exchange → Opening s_node (first_exchange ∷ [])
    opens o =
        let x : Exchange = first_exchange in
        let silent : x.output ≡ None → Opening s_node (x ∷ []) = λ e. absurd (let z : Some o.answer ≡ None = sym o.output ∙ e in cc) in
        elim ((comes m serves_port lawful.steady n event is good.single good.fit).each p) [
          | passes_by e f ↦ silent (ap (λ z. z.output) e)
          | evicted e f ↦ silent (ap (λ z. z.output) e)
          | unanswered s l e f ↦ silent (ap (λ z. z.output) e)
          | refused s q l e f ↦ absurd (let z : Some (reset_for_no_connection s) ≡ Some o.answer = sym (ap (λ y. y.output) e) ∙ o.output in
              let y : has_syn o.answer.flags ≡ false = only_some (λ t. has_syn t.flags ≡ false) (reset_for_no_connection s) o.answer
              z refl in let w = o.answers in cc)
          | born iss s plain port fit e f ↦ born_there iss s plain e f o
          | delivers_text s numbers at alive fit words snapshots h ↦
              absurd (let y : has_syn o.answer.flags ≡ false = answer_no_syn m at (serving p n.connections) numbers s o.answer
              (sym (ap (λ z. z.output) h.0) ∙ o.output) in let w = o.answers in cc)
          | ticks numbers at alive fit words snapshots h ↦ absurd (let z : None ≡ Some o.syn = sym (ap (λ y. y.received) h.0) ∙ o.received in cc)
        ]

  -- ---- the run

  -- the node that is reached
  abbrev Reaches : AbstractNode → List Exchange → Type 0
  Reaches n incarnation = Representing n incarnation []

  -- nothing follows while it asks, or its whole request is received
  abbrev Asked : List TraceEntry → List Exchange → Type 0
  Asked later asking = (later ≡ []) ⊎ (text_received (fresh a asking) ≡ a.request)

  -- no part of the request follows the whole
  still_whole : (x y : Exchange) (older : List Exchange) → text_received (fresh a (y ∷ older)) ≡ a.request
      → Goes a x (fresh a (y ∷ older)) → text_received (fresh a (x ∷ y ∷ older)) ≡ a.request
  still_whole x y older w k =
      let before : List Exchange = fresh a (y ∷ older) in
      elim k [
        | waits_for none q ↦ ap (λ t. text_received t) (keeps_quiet a x before none)
            ∙ ap (λ z. text_received before ++ option_map_or (λ s. s.text) z []) none ∙ append_nothing (text_received before) ∙ w
        | brings_next s ↦ ap (λ t. text_received t) (keeps_fresh a x before s)
            ∙ ap (λ z. text_received before ++ option_map_or (λ s. s.text) z []) s.received ∙ nothing_after (text_received before)
            s.segment.text a.request w s.part
        | brings_stale s ↦ ap (λ t. text_received t) (drops_stale a x before s) ∙ w
      ]

  whole_represents : (n : AbstractNode) (so_far : List Exchange) (some others : List TraceEntry) → text_received (fresh a so_far)
      ≡ a.request → Representing n so_far some → Representing n so_far others
  whole_represents n so_far some others w s = elim s [
    | incarnations kept e v ↦ incarnations kept e record {
      i = v.i;
      c = v.c;
      there = v.there;
      polls = v.polls;
      few = v.few;
      can_wait = inl (ap (λ k. text_received k) (sym e) ∙ w);
      stage = v.stage;
      same = v.same;
      clean = v.clean;
      unfinished = v.unfinished;
      confirmed = v.confirmed;
    }
    | over reported ↦ over reported
  ]

  module _ (own : Addr) where
    abbrev OfLine : List WireStep → AbstractNode → Type 0
    OfLine es n = AreGuarded m serves_port own a p es n

    is_event : (e : Event) → IsOfLine own e → IsEvent e
    is_event e of = wire_event e (line_wire own e of)

    good_with : (change : List ℕ → List ℕ) (n : AbstractNode) → ((numbers : List ℕ) → All IsU32 numbers → All IsU32 (change numbers))
        → Good n → Good (changed change n)
    good_with change n of g = record {
      single = g.single;
      fit = record { size = g.fit.size; conns = g.fit.conns; numbers = of n.numbers g.fit.numbers };
    }

    -- the numbers of the application are changed
    represents_still : (change : List ℕ → List ℕ) (n : AbstractNode) (so_far : List Exchange) (rest : List TraceEntry)
        → Representing n so_far rest → Representing (changed change n) so_far rest
    represents_still change n so_far rest s = elim s [
      | incarnations kept e v ↦ incarnations kept e record {
        i = v.i;
        c = v.c;
        there = v.there;
        polls = v.polls;
        few = v.few;
        can_wait = v.can_wait;
        stage = v.stage;
        same = v.same;
        clean = v.clean;
        unfinished = v.unfinished;
        confirmed = v.confirmed;
      }
      | over reported ↦ over reported
    ]

    -- nothing happens any more
    rests_over : (es : List WireStep) (n : AbstractNode) (so_far : List Exchange) → trace_on_wire m serves_port es n ≡ [] → Representing n so_far []
        → Reaches (node_on_wire m serves_port es n) so_far
    rests_over [] n so_far none s = s
    rests_over (Sets change ∷ es) n so_far none s = rests_over es (changed change n) so_far none (represents_still change n so_far [] s)
    rests_over (OnNode e ∷ es) n so_far none s = absurd (cc)
    rests_over (Drops e ∷ es) n so_far none s = absurd (cc)

    -- after the whole request
    run_later : (es : List WireStep) (n : AbstractNode) (y : Exchange) (older : List Exchange) → OfLine es n → Good n
        → GoesOn a (exchanges_onto p (trace_on_wire m serves_port es n) (y ∷ older)) → text_received (fresh a (y ∷ older)) ≡ a.request →
        Representing n (y ∷ older) [] → Reaches (node_on_wire m serves_port es n) (exchanges_onto p (trace_on_wire m serves_port es n) (y ∷ older))
    run_later [] n y older l g h w s = s
    run_later (Sets change ∷ es) n y older l g h w s = run_later es (changed change n) y older
        l.1 (good_with change n l.0 g) h w (represents_still change n (y ∷ older) [] s)
    run_later (OnNode e ∷ es) n y older l g h w s =
        let x : Exchange = exchange p e (step m serves_port n e).sent in
        let here = goes_before a p (trace_on_wire m serves_port es (step m serves_port n e).node) x (y ∷ older) h in
        let turn : TraceEntry = record { event = e; sent = (step m serves_port n e).sent } in
        run_later es (step m serves_port n e).node x (y ∷ older) l.1
        (good_on m lawful.steady serves_port n e (is_event e l.0) g) h (still_whole x y older w here.0)
        (represents_on n e g y older [] here.0 (whole_represents n (y ∷ older) [] (turn ∷ []) w s))
    run_later (Drops e ∷ es) n y older l g h w s =
        let here = goes_before a p (trace_on_wire m serves_port es n) (lost e) (y ∷ older) h in
        let turn : TraceEntry = record { event = e; sent = None } in
        run_later es n (lost e) (y ∷ older) l.1 g h (still_whole (lost e) y older w here.0)
        (represents_lost e n y older turn [] l.0 here.0 (whole_represents n (y ∷ older) [] (turn ∷ []) w s))

    -- while it asks
    run_asking : (asking later : List TraceEntry) (es : List WireStep) (n : AbstractNode) (y : Exchange) (older : List Exchange)
        → trace_on_wire m serves_port es n ≡ asking ++ later → OfLine es n → Good n → GoesOn a (exchanges_onto p (asking ++ later) (y ∷ older)) →
        Asked later (exchanges_onto p asking (y ∷ older)) → Representing n (y ∷ older) asking
        → Reaches (node_on_wire m serves_port es n) (exchanges_onto p (asking ++ later) (y ∷ older))
    run_asking [] later es n y older q l g h w s = elim w [
      | inl none ↦ subst (λ ts. Reaches (node_on_wire m serves_port es n) (exchanges_onto p ts (y ∷ older))) (sym none)
          (rests_over es n (y ∷ older) (q ∙ none) s)
      | inr whole ↦ subst (λ ts. Reaches (node_on_wire m serves_port es n) (exchanges_onto p ts (y ∷ older))) q
          (run_later es n y older l g (subst (λ ts. GoesOn a (exchanges_onto p ts (y ∷ older))) (sym q) h) whole s)
    ]
    run_asking (t ∷ asking) later [] n y older q l g h w s = absurd (cc)
    run_asking (t ∷ asking) later (Sets change ∷ es) n y older q l g h w s = run_asking (t ∷ asking) later es (changed change n) y older
        q l.1 (good_with change n l.0 g) h w (represents_still change n (y ∷ older) (t ∷ asking) s)
    run_asking (t ∷ asking) later (OnNode e ∷ es) n y older q l g h w s =
        let turn : TraceEntry = record { event = e; sent = (step m serves_port n e).sent } in
        let head : turn ≡ t = cc in
        let tail : trace_on_wire m serves_port es (step m serves_port n e).node ≡ asking ++ later = cc in
        let x : Exchange = exchange p e (step m serves_port n e).sent in
        let same : exchange p t.event t.sent ≡ x = ap (λ z. exchange p z.event z.sent) (sym head) in
        let goes = subst (λ z. GoesOn a (exchanges_onto p (asking ++ later) (z ∷ y ∷ older))) same h in
        let here = goes_before a p (asking ++ later) x (y ∷ older) goes in
        subst (λ z. Reaches (node_on_wire m serves_port (OnNode e ∷ es) n) (exchanges_onto p (asking ++ later) (z ∷ y ∷ older))) (sym same)
        (run_asking asking later es (step m serves_port n e).node x (y ∷ older) tail l.1
        (good_on m lawful.steady serves_port n e (is_event e l.0) g) goes
        (subst (λ z. Asked later (exchanges_onto p asking (z ∷ y ∷ older))) same w)
        (represents_on n e g y older asking here.0 (subst (λ z. Representing n (y ∷ older) (z ∷ asking)) (sym head) s)))
    run_asking (t ∷ asking) later (Drops e ∷ es) n y older q l g h w s =
        let turn : TraceEntry = record { event = e; sent = None } in
        let head : turn ≡ t = cc in
        let tail : trace_on_wire m serves_port es n ≡ asking ++ later = cc in
        let same : exchange p t.event t.sent ≡ lost e = ap (λ z. exchange p z.event z.sent) (sym head) in
        let goes = subst (λ z. GoesOn a (exchanges_onto p (asking ++ later) (z ∷ y ∷ older))) same h in
        let here = goes_before a p (asking ++ later) (lost e) (y ∷ older) goes in
        subst (λ z. Reaches (node_on_wire m serves_port es n) (exchanges_onto p (asking ++ later) (z ∷ y ∷ older))) (sym same)
        (run_asking asking later es n (lost e) (y ∷ older) tail l.1 g goes
        (subst (λ z. Asked later (exchanges_onto p asking (z ∷ y ∷ older))) same w)
        (represents_lost e n y older turn asking l.0 here.0 (subst (λ z. Representing n (y ∷ older) (z ∷ asking)) (sym head) s)))

    -- the numbers of the application are changed while it opens
    opening_still : (change : List ℕ → List ℕ) (n : AbstractNode) (so_far : List Exchange) → Opening n so_far → Opening (changed change n) so_far
    opening_still change n so_far s = elim s [
      | opened kept e v ↦ opened kept e record {
        i = v.i;
        c = v.c;
        there = v.there;
        stage = v.stage;
        is_syn = v.is_syn;
        same = v.same;
        clean = v.clean;
        unfinished = v.unfinished;
        confirmed = v.confirmed;
      }
      | arrived reported ↦ arrived reported
    ]

    -- the handshake went on before
    limit_before : (x y : Exchange) (older : List Exchange) → in_handshake (fresh a (x ∷ y ∷ older)) ≡ true → in_handshake (fresh a (y ∷ older)) ≡ true
    limit_before x y older h = by_kept (fresh a (y ∷ older)) h
      where
        by_kept : (kept : List Exchange) → in_handshake (with_fresh a x kept) ≡ true → in_handshake kept ≡ true
        by_kept [] l = refl
        by_kept (z ∷ zs) l = both_ways (option_map_or (is_stale a (z ∷ zs)) x.received false)
            (λ e. ap (λ b. in_handshake (if b then z ∷ zs else x ∷ z ∷ zs)) (sym e) ∙ l)
            (λ e. (let k : in_handshake (x ∷ z ∷ zs) ≡ true = ap (λ b. in_handshake (if b then z ∷ zs else x ∷ z ∷ zs)) (sym e) ∙ l in
            both_ways (is_some x.received)
            (λ f. absurd (let w : false ≡ true = ap (λ b. if b then false else in_handshake (z ∷ zs)) (sym f) ∙ k in cc))
            (λ f. ap (λ b. if b then false else in_handshake (z ∷ zs)) (sym f) ∙ k)))

    limit_here : (turns : List TraceEntry) (y : Exchange) (older : List Exchange)
        → in_handshake (fresh a (exchanges_onto p turns (y ∷ older))) ≡ true → in_handshake (fresh a (y ∷ older)) ≡ true
    limit_here [] y older h = h
    limit_here (t ∷ turns) y older h = limit_before (exchange p t.event t.sent) y older (limit_here turns (exchange p t.event t.sent) (y ∷ older) h)

    -- while the SYN-ACK awaits its acknowledgement
    run_opening : (opening asking later : List TraceEntry) (es : List WireStep) (n : AbstractNode) (y : Exchange) (older : List Exchange)
        → trace_on_wire m serves_port es n ≡ opening ++ (asking ++ later) → OfLine es n → Good n
        → GoesOn a (exchanges_onto p (opening ++ (asking ++ later)) (y ∷ older)) →
        in_handshake (fresh a (exchanges_onto p opening (y ∷ older))) ≡ true
        → Asked later (exchanges_onto p (opening ++ asking) (y ∷ older))
        → ((slot : ℕ) → calls_of slot asking ≤ patience) → Opening n (y ∷ older) →
        Reaches (node_on_wire m serves_port es n) (exchanges_onto p (opening ++ (asking ++ later)) (y ∷ older))
    run_opening [] asking later es n y older q l g h limit w prompt s = run_asking asking later es n y older q l g h w
        (asking_from n (y ∷ older) asking prompt s)
    run_opening (t ∷ opening) asking later [] n y older q l g h limit w prompt s = absurd (cc)
    run_opening (t ∷ opening) asking later (Sets change ∷ es) n y older q l g h limit w prompt s =
        run_opening (t ∷ opening) asking later es (changed change n) y older q l.1
        (good_with change n l.0 g) h limit w prompt (opening_still change n (y ∷ older) s)
    run_opening (t ∷ opening) asking later (OnNode e ∷ es) n y older q l g h limit w prompt s =
        let turn : TraceEntry = record { event = e; sent = (step m serves_port n e).sent } in
        let head : turn ≡ t = cc in
        let tail : trace_on_wire m serves_port es (step m serves_port n e).node ≡ opening ++ (asking ++ later) = cc in
        let x : Exchange = exchange p e (step m serves_port n e).sent in
        let same : exchange p t.event t.sent ≡ x = ap (λ z. exchange p z.event z.sent) (sym head) in
        let goes = subst (λ z. GoesOn a (exchanges_onto p (opening ++ (asking ++ later)) (z ∷ y ∷ older))) same h in
        let here = goes_before a p (opening ++ (asking ++ later)) x (y ∷ older) goes in
        let limit_now = subst (λ z. in_handshake (fresh a (exchanges_onto p opening (z ∷ y ∷ older))) ≡ true) same limit in
        subst (λ z. Reaches (node_on_wire m serves_port (OnNode e ∷ es) n) (exchanges_onto p (opening ++ (asking ++ later)) (z ∷ y ∷ older))) (sym same)
        (run_opening opening asking later es (step m serves_port n e).node x (y ∷ older) tail l.1
        (good_on m lawful.steady serves_port n e (is_event e l.0) g) goes limit_now
        (subst (λ z. Asked later (exchanges_onto p (opening ++ asking) (z ∷ y ∷ older))) same w) prompt
        (opening_on n e g y older [] here.0 (limit_here opening x (y ∷ older) limit_now) s))
    run_opening (t ∷ opening) asking later (Drops e ∷ es) n y older q l g h limit w prompt s =
        let turn : TraceEntry = record { event = e; sent = None } in
        let head : turn ≡ t = cc in
        let tail : trace_on_wire m serves_port es n ≡ opening ++ (asking ++ later) = cc in
        let same : exchange p t.event t.sent ≡ lost e = ap (λ z. exchange p z.event z.sent) (sym head) in
        let goes = subst (λ z. GoesOn a (exchanges_onto p (opening ++ (asking ++ later)) (z ∷ y ∷ older))) same h in
        let here = goes_before a p (opening ++ (asking ++ later)) (lost e) (y ∷ older) goes in
        subst (λ z. Reaches (node_on_wire m serves_port es n) (exchanges_onto p (opening ++ (asking ++ later)) (z ∷ y ∷ older))) (sym same)
        (run_opening opening asking later es n (lost e) (y ∷ older) tail l.1 g goes
        (subst (λ z. in_handshake (fresh a (exchanges_onto p opening (z ∷ y ∷ older))) ≡ true) same limit)
        (subst (λ z. Asked later (exchanges_onto p (opening ++ asking) (z ∷ y ∷ older))) same w) prompt
        (opening_lost e n y older l.0 here.0 s))

    -- from the opening
    from_opening : (e : Event) (es : List WireStep) (n : AbstractNode) (opening asking later : List TraceEntry) → OfLine (OnNode e ∷ es) n → Good n →
        trace_on_wire m serves_port es (step m serves_port n e).node ≡ opening ++ (asking ++ later) →
        (let x : Exchange = exchange p e (step m serves_port n e).sent in
        GoesOn a (exchanges_onto p (opening ++ (asking ++ later)) (x ∷ [])) → in_handshake (fresh a (exchanges_onto p opening (x ∷ [])))
        ≡ true → Asked later (exchanges_onto p (opening ++ asking) (x ∷ [])) → ((slot : ℕ) → calls_of slot asking ≤ patience) →
        Reaches (node_on_wire m serves_port (OnNode e ∷ es) n) (exchanges_onto p (opening ++ (asking ++ later)) (x ∷ [])))
    from_opening e es n opening asking later l g tail h limit w prompt =
        let x : Exchange = exchange p e (step m serves_port n e).sent in
        let is : IsEvent e = is_event e l.0 in
        run_opening opening asking later es (step m serves_port n e).node x [] tail l.1
        (good_on m lawful.steady serves_port n e is g) h limit w prompt
        (opens n e is g (goes_before a p (opening ++ (asking ++ later)) x [] h))

    -- one that begins with its first entry
    first_turn : (t : TraceEntry) (opening asking later incarnation : List TraceEntry) (e : Event) (es : List WireStep) (n : AbstractNode)
        → OfLine (OnNode e ∷ es) n → Good n → trace_on_wire m serves_port (OnNode e ∷ es) n ≡ incarnation
        → incarnation ≡ t ∷ (opening ++ (asking ++ later)) → GoesOn a (exchanges_with p incarnation) →
        in_handshake (fresh a (exchanges_with p (t ∷ opening))) ≡ true
        → Asked later (exchanges_with p (t ∷ (opening ++ asking))) → ((slot : ℕ) → calls_of slot asking ≤ patience)
        → Reaches (node_on_wire m serves_port (OnNode e ∷ es) n) (exchanges_with p incarnation)
    first_turn t opening asking later incarnation e es n l g q j h limit w prompt =
        let turn : TraceEntry = record { event = e; sent = (step m serves_port n e).sent } in
        let both : turn ∷ trace_on_wire m serves_port es (step m serves_port n e).node ≡ t ∷ (opening ++ (asking ++ later)) = q ∙ j in
        let head : turn ≡ t = cc in
        let tail : trace_on_wire m serves_port es (step m serves_port n e).node ≡ opening ++ (asking ++ later) = cc in
        let x : Exchange = exchange p e (step m serves_port n e).sent in
        let same : exchange p t.event t.sent ≡ x = ap (λ z. exchange p z.event z.sent) (sym head) in
        let goes : GoesOn a (exchanges_onto p (opening ++ (asking ++ later)) (x ∷ [])) = subst
        (λ z. GoesOn a (exchanges_onto p (opening ++ (asking ++ later)) (z ∷ []))) same (subst (λ ts. GoesOn a (exchanges_with p ts)) j h) in
        let end : AbstractNode = node_on_wire m serves_port (OnNode e ∷ es) n in
        subst (λ ts. Reaches end (exchanges_with p ts)) (sym j)
        (subst (λ z. Reaches end (exchanges_onto p (opening ++ (asking ++ later)) (z ∷ []))) (sym same)
        (from_opening e es n opening asking later l g tail goes (subst (λ z. in_handshake (fresh a (exchanges_onto p opening (z ∷ []))) ≡ true) same limit)
        (subst (λ z. Asked later (exchanges_onto p (opening ++ asking) (z ∷ []))) same w) prompt))

    -- the first entry is not of an event that is dropped: something is sent at it
    never_lost : (e : Event) (turns : List TraceEntry) → GoesOn a (exchanges_onto p turns (lost e ∷ [])) → ⊥
    never_lost e turns h = (let o = goes_before a p turns (lost e) [] h in let z : None ≡ Some o.answer = o.output in cc)

    -- the turns from the opening on
    from_start : (opening asking later incarnation : List TraceEntry) (es : List WireStep) (n : AbstractNode) → OfLine es n → Good n
        → trace_on_wire m serves_port es n ≡ incarnation → incarnation ≡ opening ++ (asking ++ later) → GoesOn a (exchanges_with p incarnation) →
        in_handshake (fresh a (exchanges_with p opening)) ≡ true → Asked later (exchanges_with p (opening ++ asking))
        → ((slot : ℕ) → calls_of slot asking ≤ patience) → Reaches (node_on_wire m serves_port es n) (exchanges_with p incarnation)
    from_start opening asking later incarnation [] n l g q j h limit w prompt = absurd (subst (λ ts. GoesOn a (exchanges_with p ts)) (sym q) h)
    from_start opening asking later incarnation (Sets change ∷ es) n l g q j h limit w prompt = from_start opening asking later
        incarnation es (changed change n) l.1 (good_with change n l.0 g) q j h limit w prompt
    from_start opening asking later incarnation (Drops e ∷ es) n l g q j h limit w prompt =
        absurd (never_lost e (trace_on_wire m serves_port es n) (subst (λ ts. GoesOn a (exchanges_with p ts)) (sym q) h))
    from_start (t ∷ opening) asking later incarnation (OnNode e ∷ es) n l g q j h limit w prompt = first_turn t opening asking later
        incarnation e es n l g q j h limit w prompt
    from_start [] (t ∷ asking) later incarnation (OnNode e ∷ es) n l g q j h limit w prompt =
        first_turn t [] asking later incarnation e es n l g q j h refl w
        (λ slot. (let z = prompt slot in let y = calls_more slot t asking in omega (arith, z, y)))
    from_start [] [] later incarnation (OnNode e ∷ es) n l g q j h limit w prompt =
        let rest : List TraceEntry = trace_on_wire m serves_port es (step m serves_port n e).node in
        let x : Exchange = exchange p e (step m serves_port n e).sent in
        let goes : GoesOn a (exchanges_onto p rest (x ∷ [])) = subst (λ ts. GoesOn a (exchanges_with p ts)) (sym q) h in
        let opening_text : text_received (x ∷ []) ≡ [] = (let o = goes_before a p rest x [] goes in
        ap (λ z. option_map_or (λ s. s.text) z []) o.received ∙ o.text) in
        subst (λ ts. Reaches (node_on_wire m serves_port (OnNode e ∷ es) n) (exchanges_with p ts)) q
        (from_opening e es n [] [] rest l g refl goes refl
        (elim w [
          | inl none ↦ absurd (let z : record { event = e; sent = (step m serves_port n e).sent } ∷ rest ≡ [] = q ∙ j ∙ none in cc)
          | inr whole ↦ inr (opening_text ∙ whole)
        ]) (λ slot. omega arith))

    -- the turns before
    pub from_before : (before opening asking later incarnation : List TraceEntry) (es : List WireStep) (n : AbstractNode) → OfLine es n
        → Good n → trace_on_wire m serves_port es n ≡ before ++ incarnation → incarnation ≡ opening ++ (asking ++ later)
        → GoesOn a (exchanges_with p incarnation) →
        in_handshake (fresh a (exchanges_with p opening)) ≡ true → Asked later (exchanges_with p (opening ++ asking))
        → ((slot : ℕ) → calls_of slot asking ≤ patience) → Reaches (node_on_wire m serves_port es n) (exchanges_with p incarnation)
    from_before [] opening asking later incarnation es n l g q j h limit w prompt = from_start opening asking later incarnation es n l g q j h limit w prompt
    from_before (t ∷ before) opening asking later incarnation [] n l g q j h limit w prompt = absurd (cc)
    from_before (t ∷ before) opening asking later incarnation (Sets change ∷ es) n l g q j h limit w prompt = from_before (t ∷ before)
        opening asking later incarnation es (changed change n) l.1
        (good_with change n l.0 g) q j h limit w prompt
    from_before (t ∷ before) opening asking later incarnation (OnNode e ∷ es) n l g q j h limit w prompt =
        let tail : trace_on_wire m serves_port es (step m serves_port n e).node ≡ before ++ incarnation = cc in
        from_before before opening asking later incarnation es (step m serves_port n e).node l.1
        (good_on m lawful.steady serves_port n e (is_event e l.0) g) tail j h limit w prompt
    from_before (t ∷ before) opening asking later incarnation (Drops e ∷ es) n l g q j h limit w prompt =
        let tail : trace_on_wire m serves_port es n ≡ before ++ incarnation = cc in
        from_before before opening asking later incarnation es n l.1 g tail j h limit w prompt

  -- ---- what holds of the node that is reached

  -- the request stays whole
  whole_later : (turns : List TraceEntry) (y : Exchange) (older : List Exchange) → GoesOn a (exchanges_onto p turns (y ∷ older))
      → text_received (fresh a (y ∷ older)) ≡ a.request → text_received (fresh a (exchanges_onto p turns (y ∷ older))) ≡ a.request
  whole_later [] y older h w = w
  whole_later (t ∷ turns) y older h w =
      let x : Exchange = exchange p t.event t.sent in
      whole_later turns x (y ∷ older) h (still_whole x y older w (goes_before a p turns x (y ∷ older) h).0)

  whole_from : (front later : List TraceEntry) (y : Exchange) (older : List Exchange) → GoesOn a (exchanges_onto p (front ++ later) (y ∷ older))
      → text_received (fresh a (exchanges_onto p front (y ∷ older))) ≡ a.request
      → text_received (fresh a (exchanges_onto p (front ++ later) (y ∷ older))) ≡ a.request
  whole_from [] later y older h w = whole_later later y older h w
  whole_from (t ∷ front) later y older h w = whole_from front later (exchange p t.event t.sent) (y ∷ older) h w

  whole_at_end : (front later : List TraceEntry) → GoesOn a (exchanges_with p (front ++ later))
      → text_received (fresh a (exchanges_with p front)) ≡ a.request → text_received (fresh a (exchanges_with p (front ++ later))) ≡ a.request
  whole_at_end (t ∷ front) later h w = whole_from front later (exchange p t.event t.sent) [] h w
  whole_at_end [] [] h w = absurd h
  whole_at_end [] (t ∷ later) h w =
      let x : Exchange = exchange p t.event t.sent in
      let opening_text : text_received (x ∷ []) ≡ [] = (let o = goes_before a p later x [] h in
      ap (λ z. option_map_or (λ s. s.text) z []) o.received ∙ o.text) in
      whole_later later x [] h (opening_text ∙ w)

  -- after the whole request the page has arrived, or is on its way
  pub progresses : (n : AbstractNode) (incarnation : List Exchange) → text_received (fresh a incarnation) ≡ a.request
      → Representing n incarnation [] → Progresses pages a texts incarnation
  progresses n so_far whole s = elim s [
    | incarnations kept e v ↦ inr (let more = awaits_more m pages here p lawful a room fine left texts patience answering v.polls kept v.c
        (ap (λ k. text_received k) (sym e) ∙ whole) v.stage in
        record {
          awaits = ap (λ k. awaits_ack k) e ∙ more.0;
          few = subst (λ k. bare_acks k ≤ texts) (sym e) more.1;
          unfinished = v.unfinished;
          unreset = v.clean;
        })
    | over reported ↦ inl reported
  ]

  -- the page has arrived, or the connection of the peer is as these exchanges show
  pub stands : (n : AbstractNode) (incarnation : List Exchange) → Representing n incarnation []
      → Arrives pages a incarnation ⊎ HasConnection a p (fresh a incarnation) n
  stands n so_far s = elim s [
    | incarnations kept e v ↦ inr (subst (λ k. HasConnection a p k n) (sym e) (connection_of n v.i v.c v.polls kept v.there v.stage))
    | over reported ↦ inl reported
  ]

  pub from_whole : (own : Addr) (before opening asking later incarnation : List TraceEntry) (es : List WireStep) (n : AbstractNode)
      → AreGuarded m serves_port own a p es n → Good n → trace_on_wire m serves_port es n ≡ before ++ incarnation → incarnation ≡ opening ++ (asking ++ later)
      → GoesOn a (exchanges_with p incarnation) → in_handshake (fresh a (exchanges_with p opening)) ≡ true
      → text_received (fresh a (exchanges_with p (opening ++ asking))) ≡ a.request → ((slot : ℕ) → calls_of slot asking ≤ patience)
      → Progresses pages a texts (exchanges_with p incarnation)
  from_whole own before opening asking later incarnation es n l g q j h limit w prompt =
      let same : (opening ++ asking) ++ later ≡ incarnation = append_assoc opening asking later ∙ sym j in
      progresses (node_on_wire m serves_port es n) (exchanges_with p incarnation)
      (subst (λ ts. text_received (fresh a (exchanges_with p ts)) ≡ a.request) same
      (whole_at_end (opening ++ asking) later (subst (λ ts. GoesOn a (exchanges_with p ts)) (sym same) h) w))
      (from_before own before opening asking later incarnation es n l g q j h limit (inr w) prompt)
