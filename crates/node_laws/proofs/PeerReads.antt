-- What each peer reads.
use Rattle.node_laws.proofs.Prelude.{All, option_map, ◌≡◌, ℕ, ◌<◌, Bool, true, false, ◌&&◌, inr, List, [], ◌∷◌, position, replicate, refl}
use Rattle.node_laws.proofs.Prelude.{sym, ap, ◌∙◌, subst, arith, Option, Some, None, if◌then◌else◌, All-head, All-tail, Addr, IsReadBack}
use Rattle.node_laws.proofs.Prelude.{head_of, PlainSegment, Datagram, datagram_bytes, has_rst, AppSpec, IsAddr, IsByte, IsU32, Sockets}
use Rattle.node_laws.proofs.Prelude.{Connection, closed, is_live, serves, same_sockets, is_again, is_plain_syn, reset_for_no_connection}
use Rattle.node_laws.proofs.Prelude.{segment_of, Outcome, asked, accepted, on_segment, on_tick, Step, by_head, by_segment, datagram_to}
use Rattle.node_laws.proofs.Prelude.{Event, Reply, HistoryEntry, IpRefused, IcmpRefused, TcpRefused, EchoAsked, Arrived, Overlong, Periodic}
use Rattle.node_laws.proofs.Prelude.{TcpReply, ident_of, serving, IsSteady, SendsBytes, DeliveredBytes, asked_bytes, on_segment_bytes}
use Rattle.node_laws.proofs.Prelude.{on_tick_bytes, both_ways, choose, only_some, wrap_low, FitConn, FitOut, all_nil, all_cons, asked_fits}
use Rattle.node_laws.proofs.Prelude.{on_segment_fits, on_tick_fits, FitNode, closed_fits, event_fits, none_serves, all_closed, Single}
use Rattle.node_laws.proofs.Prelude.{serving_free, serving_is, same_is, same_self, closed_lens, Lens, accepted_lens, asked_lens}
use Rattle.node_laws.proofs.Prelude.{on_segment_lens, on_tick_lens, IsSoundSegment, sent_sound, IsPlace, datagram_back, datagram_short}
use Rattle.node_laws.proofs.Prelude.{Exchange, received_from, exchange, sent_to, IsOfLine, IsDecoded, IsDecodedAt, seen_from_peer}
use Rattle.uip_node.specs.Node.{AbstractNode, NodeStep, arrives_at, for_no_connection, happened, initial_node, opens as opens_at, opens_in}
use Rattle.uip_node.specs.Node.{refuses, slot_for_syn, step}
use Rattle.node_laws.proofs.Lines.{OfMedium, Comes, comes, left_of}
use Rattle.node_laws.proofs.Lines.OfMedium.{passes_by, evicted, unanswered, refused, born, delivers_text, ticks}
use Rattle.node_laws.proofs.Steps.{LineStep, OfNode, Changes, IsStep, changed, trace_over}
use Rattle.node_laws.proofs.Wire.{IsWire, line_wire, wire_event}
use Rattle.node_laws.specs.Wire.IsOfLine.{of_bytes}
use Rattle.std.specs.Prelude.{slice_get}
use Rattle.uip_node.proofs.DatagramsBack.{bytes_low}
use Rattle.uip_node.specs.Edge.{reply_bytes}

-- sockets whose numbers fit their types
pub record Fits (p : Sockets) : Type 0 where
  pub addr : IsAddr p.peer
  pub peer_port : p.peer_port.0 < 65536
  pub own_port : p.own_port.0 < 65536

-- what was received from a peer shows that its sockets fit
record MediumInput (p : Sockets) (s : PlainSegment) : Type 0 where
  fits : Fits p
  ack : s.ack < 4294967296
  text : All IsByte s.text

came_fits : (p : Sockets) (event : Event) (s : PlainSegment) → IsWire event → received_from p event ≡ Some s → MediumInput p s
came_fits p (Arrived q t) s w e =
    both_ways (same_sockets q p)
    (λ h. (let z : Some t ≡ Some s = sym (ap (λ b. if b then Some t else None) h) ∙ e in
    let g : MediumInput p t = subst (λ y. MediumInput y t) (same_is q p h)
    record { fits = record { addr = w.0; peer_port = w.1; own_port = w.2 }; ack = w.3; text = w.4 } in
    only_some (λ y. MediumInput p y) t s z g))
    (λ h. absurd (let z : None ≡ Some s = sym (ap (λ b. if b then Some t else None) h) ∙ e in cc))
came_fits p (IpRefused fate) s w e = absurd (cc)
came_fits p (IcmpRefused fate) s w e = absurd (cc)
came_fits p (TcpRefused fate) s w e = absurd (cc)
came_fits p (EchoAsked datagram) s w e = absurd (cc)
came_fits p Overlong s w e = absurd (cc)
came_fits p (Periodic slot) s w e = absurd (cc)

reset_sound : (s : PlainSegment) → s.ack < 4294967296 → IsSoundSegment (reset_for_no_connection s)
reset_sound s h = record {
  seq = h;
  ack = wrap_low _;
  flags = omega arith;
  window = omega arith;
  mss = tt;
  short = omega arith;
  alone = inr refl;
  text = all_nil IsByte;
}

-- ---- the identification of what is sent is below 2^16

abbrev LowId : NodeStep → Type 0
LowId r = (p : Sockets) (id : ℕ) (again : Bool) (s : PlainSegment) → r.sent ≡ Some (TcpReply p id again s) → id < 65536

sent_low : (output : Option PlainSegment) (q : Sockets) (n : ℕ) (b : Bool) → n < 65536 → (p : Sockets) (id : ℕ) (again : Bool)
    (s : PlainSegment) → option_map (λ x. TcpReply q n b x) output ≡ Some (TcpReply p id again s) → id < 65536
sent_low None q n b l p id again s e = absurd (cc)
sent_low (Some x) q n b l p id again s e = (let z : n ≡ id = cc in omega (arith, l, z))

ident_low : (history : List HistoryEntry) → ident_of history < 65536
ident_low history = omega arith

module _ (m : AppSpec) (served : ℕ → Bool) where
  happened_low : (n : AbstractNode) (event : Event) (slot : ℕ) (old : Connection) (o : Outcome) → LowId (happened m n event slot old o)
  unfolding happened
  happened_low n event slot old o p id again s e = sent_low (segment_of m o.connection o.step) o.connection.sockets
      (ident_of (happened m n event slot old o).node.history) (is_again o.step) (ident_low (happened m n event slot old o).node.history) p id again s e

  opens_low : (n : AbstractNode) (q : Sockets) (s : PlainSegment) (slot : Option ℕ) → LowId (opens_at m n q s slot)
  unfolding opens_in
  opens_low n q s None p id again t e = absurd (cc)
  opens_low n q s (Some slot) p id again t e = happened_low n _ slot _ _ p id again t e

  stranger_low : (n : AbstractNode) (q : Sockets) (s : PlainSegment) → LowId (for_no_connection m served n q s)
  unfolding for_no_connection
  stranger_low n q s =
      choose (λ r. LowId r) (is_plain_syn s && served q.own_port.0) _ _ (λ e. opens_low n q s (slot_for_syn n.connections))
      (λ e. choose (λ r. LowId r) (has_rst s.flags) _ _ (λ f p id again t g. absurd (cc))
      (λ f p id again t g. sent_low (Some (reset_for_no_connection s)) q (ident_of (refuses n q s).node.history) false
      (ident_low (refuses n q s).node.history) p id again t g))

  arrives_low : (n : AbstractNode) (q : Sockets) (s : PlainSegment) (found : Option ℕ) → LowId (arrives_at m served n q s found)
  arrives_low n q s None p id again t e = stranger_low n q s p id again t e
  arrives_low n q s (Some slot) p id again t e = happened_low n _ slot _ _ p id again t e

  step_low : (n : AbstractNode) (event : Event) → LowId (step m served n event)
  step_low n (Arrived q s) p id again t e = arrives_low n q s (position (serves q) n.connections) p id again t e
  step_low n (Periodic slot) p id again t e = happened_low n _ slot _ _ p id again t e
  step_low n (EchoAsked datagram) p id again t e = absurd (cc)
  step_low n (IpRefused fate) p id again t e = absurd (cc)
  step_low n (IcmpRefused fate) p id again t e = absurd (cc)
  step_low n (TcpRefused fate) p id again t e = absurd (cc)
  step_low n Overlong p id again t e = absurd (cc)

-- ---- its bytes

place_of_reply : (own : Addr) (p : Sockets) (id : ℕ) (s : PlainSegment) → IsAddr own → Fits p → id < 65536 → IsPlace (datagram_to own p id s)
place_of_reply own p id s a f l = record {
  source = a.four;
  target = f.addr.four;
  source_bytes = a.all_bytes;
  target_bytes = f.addr.all_bytes;
  from = f.own_port;
  to = f.peer_port;
  id = l;
}

read_there : (own : Addr) (p : Sockets) (id : ℕ) (again : Bool) (s : PlainSegment) → IsAddr own → Fits p → id < 65536 → IsSoundSegment s
    → IsDecodedAt own p id again s
read_there own p id again s a f l h =
    let d : Datagram = datagram_to own p id s in
    let place : IsPlace d = place_of_reply own p id s a f l in
    let b : IsReadBack d = datagram_back d place h in
    record {
      read = ap (by_head (datagram_bytes d)) b.head ∙ ap (by_segment (head_of d) (datagram_bytes d)) b.fields
          ∙ ap (λ x. Arrived (seen_from_peer own p) x) b.segment;
      size = datagram_short d place h;
    }

-- Every sound segment to the own address can come on a line.
pub comes_on_line : (own : Addr) (p : Sockets) (s : PlainSegment) → IsAddr own → Fits p → IsSoundSegment s → IsOfLine own (Arrived p s)
comes_on_line own p s a f h =
    let there : Sockets = seen_from_peer own p in
    let fits : Fits there = record { addr = a; peer_port = f.own_port; own_port = f.peer_port } in
    let is : IsDecodedAt p.peer there 0 false s = read_there p.peer there 0 false s f.addr fits (omega arith) h in
    of_bytes (reply_bytes p.peer (TcpReply there 0 false s))
    (bytes_low (datagram_to p.peer there 0 s) (place_of_reply p.peer there 0 s f.addr fits (omega arith)) h) (sym is.read)

-- ---- what is sent is sound

pub record SoundConn (p : Sockets) (c : Connection) : Type 0 where
  pub fits : Fits p
  pub lens : Lens c
  pub input : DeliveredBytes c

record SoundOutput (p : Sockets) (s : PlainSegment) : Type 0 where
  fits : Fits p
  segment : IsSoundSegment s

record SoundDoes (p : Sockets) (d : Connection) (x : Exchange) : Type 0 where
  conn : is_live d.state ≡ true → SoundConn p d
  output : (s : PlainSegment) → x.output ≡ Some s → SoundOutput p s

module _ (m : AppSpec) (steady : IsSteady m) (bytes : SendsBytes m) where
  still_sound : (p : Sockets) (c d : Connection) (x : Exchange) → x.output ≡ None → (is_live d.state ≡ true → d ≡ c)
      → (is_live c.state ≡ true → SoundConn p c) → SoundDoes p d x
  still_sound p c d x n e h = record {
    conn = λ l. (let q : d ≡ c = e l in subst (λ z. SoundConn p z) (sym q) (h (subst (λ z. is_live z.state ≡ true) q l)));
    output = λ s f. absurd (let z : None ≡ Some s = sym n ∙ f in cc);
  }

  step_does : (p : Sockets) (d : Connection) (x : Exchange) (o : Outcome) → Fits p → FitConn o.connection → Lens o.connection
      → DeliveredBytes o.connection → x.output ≡ segment_of m o.connection o.step → d ≡ left_of o.connection → SoundDoes p d x
  step_does p d x o f fit lens delivered e q = record {
    conn = λ l. record {
      fits = f;
      lens = subst (λ z. Lens z) (sym q) (choose (λ z. Lens z) (is_live o.connection.state) o.connection closed (λ y. lens) (λ y. closed_lens));
      input = subst (λ z. DeliveredBytes z) (sym q) (choose (λ z. DeliveredBytes z) (is_live o.connection.state) o.connection closed
          (λ y. delivered) (λ y. all_nil IsByte));
    };
    output = λ s g. record { fits = f; segment = sent_sound m o.connection o.step s lens (bytes.output o.connection.part delivered fit.snapshots) (sym e ∙ g) };
  }

  does_sound : (served : ℕ → Bool) (p : Sockets) (event : Event) (sent : Option Reply) (c d : Connection) → IsWire event
      → OfMedium m served p c d (exchange p event sent) → (is_live c.state ≡ true → SoundConn p c) → SoundDoes p d (exchange p event sent)
  does_sound served p event sent c d w does h =
      let x : Exchange = exchange p event sent in
      let received : (s : PlainSegment) → x.received ≡ Some s → MediumInput p s = λ s e. came_fits p event s w e in
      elim does [
        | passes_by e f ↦ still_sound p c d x (ap (λ y. y.output) e) (λ l. f) h
        | evicted e f ↦ still_sound p c d x (ap (λ y. y.output) e) (λ l. absurd (let z : is_live d.state ≡ false = ap (λ y. is_live y.state) f in cc)) h
        | unanswered s l e f ↦ still_sound p c d x (ap (λ y. y.output) e) (λ z. f) h
        | refused s r l e f ↦ (let k : MediumInput p s = received s (ap (λ y. y.received) e) in record {
          conn = λ z. absurd (let y : is_live d.state ≡ false = ap (λ y. is_live y.state) f ∙ l in cc);
          output = λ t g. record {
            fits = k.fits;
            segment = only_some (λ y. IsSoundSegment y) (reset_for_no_connection s) t
                (sym (ap (λ y. y.output) e) ∙ g) (reset_sound s k.ack);
          };
        })
        | born iss s plain port fit e f ↦ (let k : MediumInput p s = received s (ap (λ y. y.received) e) in
            let b : Connection = accepted iss p s in
            record {
              conn = λ z. record {
                fits = k.fits;
                lens = subst (λ y. Lens y) (sym f) (accepted_lens iss p s);
                input = subst (λ y. DeliveredBytes y) (sym f) (all_nil IsByte);
              };
              output = λ t g. record {
                fits = k.fits;
                segment = sent_sound m b (Step.SynAck false) t (accepted_lens iss p s)
                    (bytes.output b.part (all_nil IsByte) fit.snapshots) (sym (ap (λ y. y.output) e) ∙ g);
              };
            })
        | delivers_text s numbers at alive fit words is q ↦
            (let o : Outcome = on_segment m c numbers s in
            let fo : FitOut o = on_segment_fits m steady c numbers s fit words in
            step_does p d x (asked m at o) (h alive).fits (asked_fits m steady at is o fo).conn
            (asked_lens m at o (on_segment_lens m c numbers s (h alive).lens))
            (asked_bytes m bytes at o (on_segment_bytes m bytes c numbers s (received s (ap (λ y. y.received) q.0)).text (h alive).input))
            (ap (λ y. y.output) q.0) q.1)
        | ticks numbers at alive fit words is q ↦
            (let o : Outcome = on_tick m c numbers in
            let fo : FitOut o = on_tick_fits m steady c numbers fit words in
            step_does p d x (asked m at o) (h alive).fits (asked_fits m steady at is o fo).conn
            (asked_lens m at o (on_tick_lens m c numbers (h alive).lens))
            (asked_bytes m bytes at o (on_tick_bytes m bytes c numbers (h alive).input)) (ap (λ y. y.output) q.0) q.1)
      ]

  pub record SoundAll (n : AbstractNode) : Type 0 where
    pub single : Single n.connections
    pub fit : FitNode n
    pub each : (p : Sockets) → is_live (serving p n.connections).state ≡ true → SoundConn p (serving p n.connections)

  -- its numbers are changed
  pub changed_sound : (n : AbstractNode) (change : List ℕ → List ℕ) → All IsU32 (change n.numbers) → SoundAll n → SoundAll (changed change n)
  changed_sound n change words g = record { single = g.single; fit = record { size = g.fit.size; conns = g.fit.conns; numbers = words }; each = g.each }

  pub starts_sound : (own : Addr) (numbers : List ℕ) → All IsU32 numbers → SoundAll (initial_node own numbers)
  starts_sound own numbers w = record {
    single = λ q i j x y a b u v. absurd (let z = none_serves 10 q i x a in cc);
    fit = record { size = omega arith; conns = λ i x y. subst FitConn (all_closed 10 i x y) closed_fits; numbers = w };
    each = λ p l. absurd (let z : is_live (serving p (replicate 10 closed)).state ≡ false = ap (λ c. is_live c.state)
        (serving_free (replicate 10 closed) p (none_serves 10 p)) in cc);
  }

  -- the sockets of a connection fit
  pub live_fits : (n : AbstractNode) (slot : ℕ) (c : Connection) → SoundAll n → slice_get n.connections slot ≡ Some c → is_live c.state ≡ true → Fits c.sockets
  live_fits n slot c g at live =
      let serves_it : serves c.sockets c ≡ true = ap (λ b. b && same_sockets c.sockets c.sockets) live ∙ same_self c.sockets in
      let is : serving c.sockets n.connections ≡ c = serving_is n.connections c.sockets slot c g.single at serves_it in
      (g.each c.sockets (ap (λ x. is_live x.state) is ∙ live)).fits

  module _ (served : ℕ → Bool) (own : Addr) (is_own : IsAddr own) where
    pub step_all : (n : AbstractNode) (event : Event) → IsOfLine own event → SoundAll n → SoundAll (step m served n event).node
        × IsDecoded own (record { event = event; sent = (step m served n event).sent })
    step_all n event of g =
        let w : IsWire event = line_wire own event of in
        let r : NodeStep = step m served n event in
        let c : Comes m served n event r = comes m served steady n event (wire_event event w) g.single g.fit in
        let s : (p : Sockets) → SoundDoes p (serving p r.node.connections) (exchange p event r.sent) = λ p. does_sound served p event r.sent
        (serving p n.connections) (serving p r.node.connections) w (c.each p) (g.each p) in (
          record { single = c.single; fit = event_fits m steady served n event (wire_event event w) g.fit; each = λ p. (s p).conn },
          λ p id again t e. (let output : sent_to p r.sent ≡ Some t = ap (λ z. sent_to p z) e ∙ ap (λ b. if b then Some t else None) (same_self p) in
              let k : SoundOutput p t = (s p).output t output in
              read_there own p id again t is_own k.fits (step_low m served n event p id again t e) k.segment),
        )

    all_read : (steps : List LineStep) (n : AbstractNode) → All (IsStep own) steps → SoundAll n → All (IsDecoded own) (trace_over m served steps n)
    all_read [] n a g = all_nil (IsDecoded own)
    all_read (OfNode e ∷ steps) n a g =
        let x = step_all n e (All-head (IsStep own) (OfNode e) steps a) g in
        all_cons (IsDecoded own) _ _ x.1 (all_read steps (step m served n e).node (All-tail (IsStep own) (OfNode e) steps a) x.0)
    all_read (Changes change ∷ steps) n a g =
        let words = All-head (IsStep own) (Changes change) steps a in
        all_read steps (changed change n) (All-tail (IsStep own) (Changes change) steps a) (changed_sound n change (words n.numbers g.fit.numbers) g)

pub every_peer_reads : (m : AppSpec) → IsSteady m → SendsBytes m → (served : ℕ → Bool) (own : Addr) → IsAddr own → (numbers : List ℕ) → All IsU32 numbers
    → (steps : List LineStep) → All (IsStep own) steps → All (IsDecoded own) (trace_over m served steps (initial_node own numbers))
every_peer_reads m steady bytes served own a numbers w steps of =
    all_read m steady bytes served own a steps (initial_node own numbers) of (starts_sound m steady bytes own numbers w)
