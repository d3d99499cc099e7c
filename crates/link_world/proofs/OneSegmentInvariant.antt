-- One segment, and what is acknowledged, beside Prefix and whole and Same bytes.
use Rattle.link_world.proofs.Prelude.{All, ◌≡◌, ℕ, ◌+◌, ◌<◌, ◌≤◌, Bool, true, false, not, ◌&&◌, inl, inr, List, [], ◌∷◌, ◌++◌, length, drop}
use Rattle.link_world.proofs.Prelude.{refl, sym, ap, ◌∙◌, subst, arith, Option, Some, None, slice_get, eqb, ltb, length-append, length-take}
use Rattle.link_world.proofs.Prelude.{if◌then◌else◌, wrap, Addr, PlainSegment, has_syn, has_fin, has_rst, has_ack, Snapshot, AppSpec, Pages}
use Rattle.link_world.proofs.Prelude.{IsSnapshot, IsNow, IsU32, Now, State, Closed, SynRcvd, Established, CloseWait, FinWait1, FinWait2}
use Rattle.link_world.proofs.Prelude.{Closing, TimeWait, LastAck, Sockets, Connection, closed, is_live, snd_una, occupies_sequence_space}
use Rattle.link_world.proofs.Prelude.{is_plain_syn, is_again, syn_ack, Outcome, asked, accepted, is_acked, on_segment, on_tick}
use Rattle.link_world.proofs.Prelude.{AbstractClient, ClientStep, has_closed, is_receiving, one_if, client_takes, client_opens}
use Rattle.link_world.proofs.Prelude.{client_again, client_closes, client_aborts, advertises_window, ClientState, client_sockets, World}
use Rattle.link_world.proofs.Prelude.{Side, Sent, PastConnection, becomes_opened, with_client, marked, is_clean, past_connection_of, era}
use Rattle.link_world.proofs.Prelude.{Planned, IsPlan, initial_world, IsReached, IsReachedPlainly, IsInStep, OneSegment, server_side}
use Rattle.link_world.proofs.Prelude.{and_true, eqb-eq, same_place, wrap_wrap, get_push, nothing_placed, not-true, older, newest, FitConn}
use Rattle.link_world.proofs.Prelude.{FitOut, on_segment_fits, on_tick_fits, Safe, SafeState, IsDue, due, OutReported, segment_reports}
use Rattle.link_world.proofs.Prelude.{tick_reports, Moves, asked_moves, segment_moves, tick_moves, DeliveredBytes, does, Act, HasBytes}
use Rattle.link_world.proofs.Prelude.{IsSteady, asked_lens, on_segment_lens, on_tick_lens, stepped_fits, stepped_reports}
use Rattle.link_client.specs.declared.client_state.ClientState.TheVariants as Is
use Rattle.link_world.proofs.Speaking.{Speaker}
use Rattle.link_world.proofs.CleanClientInvariant.{seg, segment_in, from, to, ToGood, ClientSent, NodeSent, OpenedGood, HasOpened, Good}
use Rattle.link_world.proofs.CleanClientInvariant.{is_unasked, unopened}
use Rattle.link_world.proofs.CleanClientInvariant.NodeSent.{node_reset, node_syn, node_ack, node_text, node_fin}
use Rattle.link_world.proofs.CleanClientInvariant.ClientSent.{sent_reset, sent_syn, sent_data}
use Rattle.link_world.proofs.Views.{era_now, first_live, first_dead}
use Rattle.link_world.proofs.Counts.{count, Kind, Counted, Idles, Acks, client_counted, opens_idles, again_idles, closes_idles}
use Rattle.link_world.proofs.Counts.{aborts_idles, idles_quiet, same_becomes}
use Rattle.link_world.proofs.Counts.Kind.{kept, took_text, took_open}
use Rattle.link_world.proofs.Sides.{clean_before}
use Rattle.link_world.proofs.Runs.{reached_plainly, reached_where, room_plainly, room_where}
use Rattle.link_world.proofs.Room.{HasRoom}
use Rattle.link_world.proofs.SentBytes.{SendsBytesWhere, pages_send_bytes}
use Rattle.link_world.proofs.Harmless.{Harmless}
use Rattle.link_world.proofs.FitWorlds.{FitWorld}
use Rattle.link_world.proofs.OneClientFact.{Framed, Steps, Refines, model, entry, does_framed}
use Rattle.link_world.proofs.OneClientFact
use Rattle.link_world.proofs.RetransmissionInvariant.{Any_low, near_by}
use Rattle.link_world.proofs.RetransmissionInvariant
use Rattle.link_world.proofs.PrefixAndWhole.{AtPorts, everywhere}
use Rattle.link_world.proofs.PrefixAndWhole

-- a number that the client acknowledges
record Acked (client : AbstractClient) (iss : ℕ) (s : PlainSegment) : Type 0 where
  at : ℕ
  low : at ≤ count client
  is : s.ack ≡ wrap (iss + 1 + at)

record Exact (k : ℕ) (client : AbstractClient) (history : List PastConnection) (c : Connection) (o : ℕ) (sent : List Sent) : Type 0 where
  expected : client.expected ≡ wrap ((era history c o).iss + 1 + count client)
  low : is_live c.state ≡ true → c.acked ≤ 1 + count client
  high : is_live c.state ≡ true → 1 + count client ≤ c.acked + c.len
  acks : (j : ℕ) (e : Sent) → slice_get sent j ≡ Some e → e.who ≡ from k → has_rst (seg e).flags ≡ false → has_ack (seg e).flags ≡ true
      → Acked client (era history c o).iss (seg e)

abbrev ExactOpen : ℕ → AbstractClient → List PastConnection → Connection → List Sent → Option ℕ → Type 0
ExactOpen k client history c sent None = Unit {0}
ExactOpen k client history c sent (Some o) = Exact k client history c o sent

-- where a datagram ends
abbrev EndsBy : Connection → PlainSegment → Type 0
EndsBy c s = occupies_sequence_space s ≡ true → (at : ℕ) → at < 4294967296 → s.seq ≡ wrap (c.iss + at)
    → at + length s.text + one_if (has_fin s.flags) ≤ c.acked + c.len

abbrev Ends : ℕ → Side → Connection → List Sent → Type 0
Ends k side c sent = is_live c.state ≡ true → (j : ℕ) (e : Sent) → slice_get sent j ≡ Some e → e.who ≡ to k → e.epoch ≡ length side.history → EndsBy c (seg e)

push_ends : (k : ℕ) (side : Side) (c : Connection) (sent : List Sent) (e : Sent) → Ends k side c sent
    → (is_live c.state ≡ true → e.who ≡ to k → EndsBy c (seg e)) → Ends k side c (sent ++ e ∷ [])
push_ends k side c sent e g n l j f x w q = elim (get_push sent e j f x) [
  | older z ↦ g l j f z w q
  | newest i z ↦ subst (λ (y : Sent). EndsBy c (seg y)) z (n l (ap (λ (y : Sent). y.who) z ∙ w))
]

moved_ends : (k : ℕ) (side : Side) (c d : Connection) (acked : Bool) (sent : List Sent) → is_live c.state ≡ true → Moves acked c d
    → Ends k side c sent → Ends k side d sent
moved_ends k side c d acked sent lv m g l j e y who q pl at low sq =
    let z = g lv j e y who q pl at low (sq ∙ ap (λ n. wrap (n + at)) m.iss) in
    omega (arith, z, m.top)

push_exact : (k : ℕ) (client : AbstractClient) (history : List PastConnection) (c : Connection) (sent : List Sent) (e : Sent)
    (opened : Option ℕ) → ExactOpen k client history c sent opened →
    ((o : ℕ) → opened ≡ Some o → e.who ≡ from k → has_rst (seg e).flags ≡ false → has_ack (seg e).flags ≡ true
    → Acked client (era history c o).iss (seg e)) → ExactOpen k client history c (sent ++ e ∷ []) opened
push_exact k client history c sent e None x a = tt
push_exact k client history c sent e (Some o) x a = record {
  expected = x.expected;
  low = x.low;
  high = x.high;
  acks = λ j f y w n h. elim (get_push sent e j f y) [
    | older z ↦ x.acks j f z w n h
    | newest i z ↦ subst (λ (s : Sent). Acked client (era history c o).iss (seg s)) z
        (a o refl (ap (λ (s : Sent). s.who) z ∙ w) (ap (λ (s : Sent). has_rst (seg s).flags) z ∙ n) (ap (λ (s : Sent). has_ack (seg s).flags) z ∙ h))
  ];
}

-- the counts stay, and so does the first number
same_exact : (k : ℕ) (client : AbstractClient) (history history' : List PastConnection) (c d : Connection) (o : ℕ) (sent : List Sent)
    → (era history' d o).iss ≡ (era history c o).iss →
    (is_live d.state ≡ true → (d.acked ≤ 1 + count client) × (1 + count client ≤ d.acked + d.len)) → Exact k client history c o sent
    → Exact k client history' d o sent
same_exact k client history history' c d o sent f between x = record {
  expected = x.expected ∙ ap (λ n. wrap (n + 1 + count client)) (sym f);
  low = λ l. (between l).0;
  high = λ l. (between l).1;
  acks = λ j e z w n a. (let b = x.acks j e z w n a in record { at = b.at; low = b.low; is = b.is ∙ ap (λ q. wrap (q + 1 + b.at)) (sym f) });
}

count_kept : (client d : AbstractClient) → d.received ≡ client.received → has_closed d.state ≡ has_closed client.state → count d ≡ count client
count_kept client d r e =
    let a : length d.received ≡ length client.received = ap (λ (x : List ℕ). length x) r in
    let b : one_if (has_closed d.state) ≡ one_if (has_closed client.state) = ap one_if e in
    omega (arith, a, b)

-- the client's step leaves the counts
kept_exact : (k : ℕ) (client d : AbstractClient) (history : List PastConnection) (c : Connection) (sent : List Sent) (opened : Option ℕ)
    → d.expected ≡ client.expected → count d ≡ count client → ExactOpen k client history c sent opened → ExactOpen k d history c sent opened
kept_exact k client d history c sent None e n x = tt
kept_exact k client d history c sent (Some o) e n x = record {
  expected = e ∙ x.expected ∙ ap (λ m. wrap ((era history c o).iss + 1 + m)) (sym n);
  low = λ l. (let z = x.low l in omega (arith, z, n));
  high = λ l. (let z = x.high l in omega (arith, z, n));
  acks = λ j s z w r a. (let b = x.acks j s z w r a in record { at = b.at; low = (let y = b.low in omega (arith, y, n)); is = b.is });
}

sent_acks : (k : ℕ) (d : AbstractClient) (history : List PastConnection) (c : Connection) (sent : List Sent) (opened : Option ℕ)
    (s : PlainSegment) → ExactOpen k d history c sent opened → s.ack ≡ d.expected → (o : ℕ) → opened ≡ Some o → Acked d (era history c o).iss s
sent_acks k d history c sent None s x a o q = absurd (cc)
sent_acks k d history c sent (Some p) s x a o q = subst (λ n. Acked d (era history c n).iss s) (let e : p ≡ o = cc in e)
    record { at = count d; low = omega arith; is = a ∙ x.expected }

receiving_not_done : (st : ClientState) → is_receiving st ≡ true → has_closed st ≡ false
receiving_not_done Is.Idle h = absurd (cc)
receiving_not_done Is.Opening h = absurd (cc)
receiving_not_done Is.Opened h = refl
receiving_not_done Is.Closing h = refl
receiving_not_done _ h = absurd (cc)

receiving_stays : (st x : ClientState) → is_receiving st ≡ true → becomes_opened st x ≡ false
receiving_stays Is.Idle x h = absurd (cc)
receiving_stays Is.Opening x h = absurd (cc)
receiving_stays Is.Opened x h = refl
receiving_stays Is.Closing x h = refl
receiving_stays _ x h = absurd (cc)

-- a list of datagrams that has room has it before its last one
room_before : (sent : List Sent) (e : Sent) → length (sent ++ e ∷ []) ≤ 65535 → length sent ≤ 65535
room_before sent e h = omega (arith, h, length-append sent (e ∷ []))

module _ (m : AppSpec) (ports : AtPorts m) where
  abbrev steady : IsSteady m
  steady = (ports.laws 0).steady

  -- where there are no more datagrams than a world can have, no number of a connection comes round
  top_low : (k : ℕ) (side : Side) (c : Connection) (sent : List Sent) → RetransmissionInvariant.Reported m steady k side c sent
      → length sent ≤ 65535 → is_live c.state ≡ true → c.acked + c.len < 4294967296
  top_low k side c sent t h l = (let r = t.room l in omega (arith, r, h))

  -- what is outstanding is no longer than the output
  span : (c : Connection) (st : State) → SafeState m steady Any_low (λ p f. tt) c st → 0 < c.len → length (due m st c).text + one_if
      (has_fin (due m st c).flags) ≤ c.len
  span c Closed h l = absurd h
  span c SynRcvd h l = omega arith
  span c Established h l = (let e = length-take c.len (drop c.part.acked (m.output c.part)) in omega (arith, e))
  span c CloseWait h l = (let e = length-take c.len (drop c.part.acked (m.output c.part)) in omega (arith, e))
  span c FinWait1 h l = omega (arith, l)
  span c FinWait2 h l = omega arith
  span c Closing h l = omega (arith, l)
  span c TimeWait h l = omega arith
  span c LastAck h l = omega (arith, l)

  -- what the connection just sent ends where its output does
  new_ends : (d : Connection) (s : PlainSegment) → d.acked < 4294967296 → Safe m steady Any_low (λ p f. tt) d
      → (occupies_sequence_space s ≡ true → IsDue m steady Any_low (λ p f. tt) d s) → EndsBy d s
  new_ends d s top f n p at low q =
      let w : IsDue m steady Any_low (λ p f. tt) d s = n p in
      let here : at ≡ d.acked = same_place d.iss at d.acked low top (sym q ∙ w.seq) in
      let z = span d d.state f.state w.len in
      let t : length s.text ≡ length (due m d.state d).text = ap (λ (x : List ℕ). length x) w.alike.text in
      let u : one_if (has_fin s.flags) ≡ one_if (has_fin (due m d.state d).flags) = ap (λ n. one_if (has_fin n)) w.alike.flags in
      omega (arith, here, z, t, u)

  record G (k : ℕ) (side : Side) (c : Connection) (sent : List Sent) : Type 0 where
    reported : RetransmissionInvariant.Reported m steady k side c sent
    good : PrefixAndWhole.G m ports k side c sent
    ends : length sent ≤ 65535 → Ends k side c sent
    exact : length sent ≤ 65535 → is_clean side ≡ true → ExactOpen k side.client side.history c sent side.opened

  push_aside : (k : ℕ) (side : Side) (c : Connection) (sent : List Sent) (e : Sent) → (e.who ≡ from k → ⊥)
      → (length sent ≤ 65535 → is_clean side ≡ true → ExactOpen k side.client side.history c sent side.opened)
      → length (sent ++ e ∷ []) ≤ 65535 → is_clean side ≡ true → ExactOpen k side.client side.history c (sent ++ e ∷ []) side.opened
  push_aside k side c sent e n x r cl = push_exact k side.client side.history c sent e side.opened (x (room_before sent e r) cl) (λ o q w. absurd (n w))

  other : (k : ℕ) (side : Side) (c : Connection) (sent : List Sent) (e : Sent) → G k side c sent → (e.who ≡ to k → ⊥) → (e.who ≡ from k → ⊥)
      → G k side c (sent ++ e ∷ [])
  other k side c sent e g t f = record {
    reported = RetransmissionInvariant.other m steady k side c sent e g.reported t f;
    good = PrefixAndWhole.other m ports k side c sent e g.good t f;
    ends = λ r. push_ends k side c sent e (g.ends (room_before sent e r)) (λ l w. absurd (t w));
    exact = push_aside k side c sent e f g.exact;
  }

  to_not_from : (k : ℕ) (e : Sent) → e.who ≡ to k → e.who ≡ from k → ⊥
  to_not_from k e t f = absurd (let z : to k ≡ from k = sym t ∙ f in cc)

  reset : (k : ℕ) (side : Side) (c : Connection) (sent : List Sent) (e : Sent) → G k side c sent → e.epoch ≡ length side.history
      → has_syn (seg e).flags ≡ false → has_fin (seg e).flags ≡ false → (seg e).text ≡ [] → has_rst (seg e).flags ≡ true → e.again ≡ false
      → e.who ≡ to k → G k side c (sent ++ e ∷ [])
  reset k side c sent e g q sy fi te rs ag w = record {
    reported = RetransmissionInvariant.reset m steady k side c sent e g.reported q sy fi te rs ag w;
    good = PrefixAndWhole.reset m ports k side c sent e g.good q sy fi te rs ag w;
    ends = λ r. push_ends k side c sent e (g.ends (room_before sent e r)) (λ l x p. absurd (nothing_placed (seg e) sy fi te p));
    exact = push_aside k side c sent e (to_not_from k e w) g.exact;
  }

  -- the connection is gone
  dead_exact : (speaker : Speaker) (k : ℕ) (client : AbstractClient) (history : List PastConnection) (c d : Connection) (sent : List Sent)
      (opened : Option ℕ) → d.iss ≡ c.iss → OpenedGood speaker client history c opened →
      ExactOpen k client history c sent opened → ExactOpen k client (history ++ past_connection_of d ∷ []) closed sent opened
  dead_exact speaker k client history c d sent None f h x = tt
  dead_exact speaker k client history c d sent (Some o) f h x = same_exact k client history (history ++ past_connection_of d ∷ []) c closed
      o sent (first_dead history c d closed f o h.time) (λ l. absurd (cc)) x

  evict : (k : ℕ) (side : Side) (c : Connection) (sent : List Sent) → is_live c.state ≡ true → G k side c sent → G k (OneClientFact.older side c) closed sent
  evict k side c sent l g = record {
    reported = RetransmissionInvariant.evict m steady k side c sent l g.reported;
    good = PrefixAndWhole.evict m ports k side c sent l g.good;
    ends = λ r x. absurd (cc);
    exact = λ r cl. dead_exact (PrefixAndWhole.speaker_of m ports side) k side.client side.history c c sent side.opened refl
        (g.good cl).opened_good (g.exact r cl);
  }

  mark : (k : ℕ) (side : Side) (c : Connection) (sent : List Sent) (n : ℕ) (e : Sent) → G k side c sent → G k (marked side n e) c sent
  mark k side c sent n e g = record {
    reported = RetransmissionInvariant.mark m steady k side c sent n e g.reported;
    good = PrefixAndWhole.mark m ports k side c sent n e g.good;
    ends = g.ends;
    exact = λ r cl. g.exact r (clean_before side n e cl).0;
  }

  -- the connection continues
  live_exact : (k : ℕ) (client : AbstractClient) (history : List PastConnection) (c d : Connection) (acked : Bool) (sent : List Sent)
      (opened : Option ℕ) → is_live c.state ≡ true → Moves acked c d →
      ExactOpen k client history c sent opened → ((o : ℕ) → opened ≡ Some o → acked ≡ true → c.acked + c.len ≤ 1 + count client)
      → ExactOpen k client history d sent opened
  live_exact k client history c d acked sent None lc mv x a = tt
  live_exact k client history c d acked sent (Some o) lc mv x a =
      same_exact k client history history c d o sent (first_live history c d mv.iss o)
      (λ l. (
        elim mv.place [ inl y ↦ (let z = x.low lc in omega (arith, y, z)) | inr y ↦ (let z = a o refl y.0 in let n = y.1 in omega (arith, n, z)) ],
        (let z = x.high lc in omega (arith, z, mv.top)),
      )) x

  abbrev ReportedSteps : World → Outcome → ℕ → Side → Type 0
  ReportedSteps w o k side = Steps m (RetransmissionInvariant.Reported m steady) (RetransmissionInvariant.other m steady)
      (RetransmissionInvariant.reset m steady) (RetransmissionInvariant.evict m steady) (RetransmissionInvariant.mark m steady) w o k side

  abbrev GoodSteps : World → Outcome → ℕ → Side → Type 0
  GoodSteps w o k side = Steps m (PrefixAndWhole.G m ports) (PrefixAndWhole.other m ports) (PrefixAndWhole.reset m ports)
      (PrefixAndWhole.evict m ports) (PrefixAndWhole.mark m ports) w o k side

  steps_by : (w : World) (old : Connection) (o : Outcome) (acked : Bool) (k : ℕ) (side : Side) → is_live old.state ≡ true
      → G k side old w.sent → FitConn o.connection → OutReported m steady Any_low (λ p f. tt) old o → Moves acked old o.connection →
      ReportedSteps w o k side → GoodSteps w o k side → (length w.sent ≤ 65535 → is_clean side ≡ true → (n : ℕ) → side.opened ≡ Some n
      → acked ≡ true → old.acked + old.len ≤ 1 + count side.client) → Steps m G other reset evict mark w o k side
  steps_by w old o acked k side lv g fit h mv t p a =
      let live : length w.sent ≤ 65535 → is_clean side ≡ true → ExactOpen k side.client side.history o.connection w.sent side.opened =
      λ r cl. live_exact k side.client side.history old o.connection acked w.sent side.opened lv mv (g.exact r cl) (a r cl) in
      let dead : length w.sent ≤ 65535 → is_clean side ≡ true → ExactOpen k side.client (side.history ++ past_connection_of o.connection
      ∷ []) closed w.sent side.opened = λ r cl. dead_exact (PrefixAndWhole.speaker_of m ports side) k side.client side.history old
      o.connection w.sent side.opened mv.iss (g.good cl).opened_good (g.exact r cl) in
      record {
        quiet = λ n l. record {
          reported = t.quiet n l;
          good = p.quiet n l;
          ends = λ r. moved_ends k side old o.connection acked w.sent lv
              mv (g.ends r);
          exact = live;
        };
        quiet_last = λ n l. record { reported = t.quiet_last n l; good = p.quiet_last n l; ends = λ r x. absurd (cc); exact = dead };
        says = λ s e l tick id. record {
          reported = t.says s e l tick id;
          good = p.says s e l tick id;
          ends = λ r. push_ends k side o.connection w.sent (entry (to k) side tick id (model (is_again o.step) s))
              (moved_ends k side old o.connection acked w.sent lv mv (g.ends (room_before w.sent (entry (to k) side tick id (model (is_again o.step) s)) r)))
              (λ x y. new_ends o.connection s (let z = (t.says s e l tick id).room l in omega (arith, z, r)) (h.safe l) (λ z. (h.output s e z).due_now));
          exact = push_aside k side o.connection w.sent (entry (to k) side tick id (model (is_again o.step) s)) (λ y. absurd (cc)) live;
        };
        sends_last = λ s e l tick id. record {
          reported = t.sends_last s e l tick id;
          good = p.sends_last s e l tick id;
          ends = λ r x. absurd (cc);
          exact = push_aside k (OneClientFact.older side o.connection) closed w.sent (entry (to k) (OneClientFact.older side o.connection)
              tick id (model (is_again o.step) s)) (λ y. absurd (cc)) dead;
        };
      }

  first_here : (speaker : Speaker) (client : AbstractClient) (history : List PastConnection) (c : Connection) (o : ℕ)
      → is_live c.state ≡ true → HasOpened speaker client history c o → (era history c o).iss ≡ c.iss
  first_here speaker client history c o l h = ap (λ (z : PastConnection). z.iss)
      (era_now history c o (let q : o ≡ length history = h.live_then l in omega (arith, q)))

  -- an acknowledgement that counts was sent by the client
  acked_here : (c : Connection) (s : PlainSegment) (client : AbstractClient) → c.acked + c.len < 4294967296
      → 1 + count client ≤ c.acked + c.len → is_acked c s ≡ true → Acked client c.iss s → c.acked + c.len ≤ 1 + count client
  acked_here c s client top high h a =
      let y = and_true (has_ack s.flags) (ltb 0 c.len && eqb s.ack (wrap (snd_una c + c.len))) h in
      let z = and_true (ltb 0 c.len) (eqb s.ack (wrap (snd_una c + c.len))) y.1 in
      let q : s.ack ≡ wrap (snd_una c + c.len) = eqb-eq s.ack (wrap (snd_una c + c.len)) z.1 in
      let r : wrap (snd_una c + c.len) ≡ wrap (c.iss + (c.acked + c.len)) = wrap_wrap (c.iss + c.acked) c.len ∙ ap wrap (omega arith) in
      let t : wrap (c.iss + (1 + a.at)) ≡ s.ack = ap wrap (omega arith) ∙ sym a.is in
      let l = a.low in
      let e : c.acked + c.len ≡ 1 + a.at = same_place c.iss (c.acked + c.len) (1 + a.at) top (omega (arith, l, high, top)) (sym r ∙ sym q ∙ sym t) in
      omega (arith, l, e)

  acked_by : (speaker : Speaker) (k : ℕ) (client : AbstractClient) (history : List PastConnection) (c : Connection) (sent : List Sent)
      (opened : Option ℕ) (j : ℕ) (e : Sent) → slice_get sent j ≡ Some e → e.who ≡ from k → is_live c.state ≡ true → c.acked + c.len < 4294967296 →
      OpenedGood speaker client history c opened → ExactOpen k client history c sent opened → (o : ℕ) → opened ≡ Some o
      → not (has_rst (seg e).flags) && is_acked c (seg e) ≡ true → c.acked + c.len ≤ 1 + count client
  acked_by speaker k client history c sent None j e x w l top h y o q a = absurd (cc)
  acked_by speaker k client history c sent (Some p) j e x w l top h y o q a =
      let b = and_true (not (has_rst (seg e).flags)) (is_acked c (seg e)) a in
      let d = and_true (has_ack (seg e).flags) (ltb 0 c.len && eqb (seg e).ack (wrap (snd_una c + c.len))) b.1 in
      let n : has_rst (seg e).flags ≡ false = not-true (has_rst (seg e).flags) b.0 in
      let t = y.acks j e x w n d.0 in
      acked_here c (seg e) client top (y.high l) b.1
      record { at = t.at; low = t.low; is = t.is ∙ ap (λ z. wrap (z + 1 + t.at)) (first_here speaker client history c p l h) }

  segment : (w : World) (old : Connection) (numbers : List ℕ) (now : Connection → Now) (k j : ℕ) (side : Side) (e : Sent)
      → is_live old.state ≡ true → FitConn old → All IsU32 numbers → ((c : Connection) → FitConn c → IsNow (now c)) →
      slice_get w.sent j ≡ Some e → e.who ≡ from k → (is_clean side ≡ true → e.epoch ≡ length side.history) → G k side old w.sent
      → Steps m G other reset evict mark w (asked m now (on_segment m old numbers (seg e))) k side
  segment w old numbers now k j side e lv f n is sent who fresh g =
      let o : Outcome = on_segment m old numbers (seg e) in
      let fo : FitOut o = on_segment_fits m steady old numbers (seg e) f n in
      let fit : FitConn (asked m now o).connection = stepped_fits m steady Any_low (λ p f. tt) now o is fo in
      let h : OutReported m steady Any_low (λ p f. tt) old (asked m now o) = stepped_reports m steady Any_low (λ p f. tt) now old o is fo
      (segment_reports m steady Any_low (λ p f. tt) old numbers (seg e) (g.reported.safe lv)) in
      steps_by w old (asked m now o) (not (has_rst (seg e).flags) && is_acked old (seg e)) k side lv g fit h
      (asked_moves m _ old now o (segment_moves m old numbers (seg e)))
      (RetransmissionInvariant.steps_by m steady w old (asked m now o) k side lv fit
      (asked_lens m now o (on_segment_lens m old numbers (seg e) g.reported.lens))
      (near_by _ old (asked m now o).connection (asked_moves m _ old now o (segment_moves m old numbers (seg e)))) h g.reported)
      (PrefixAndWhole.segment m ports w old numbers now k j side e lv f n is sent who fresh g.good)
      (λ r cl p q a. acked_by (PrefixAndWhole.speaker_of m ports side) k side.client side.history old w.sent side.opened j e sent who lv
      (top_low k side old w.sent g.reported r lv) (g.good cl).opened_good (g.exact r cl) p q a)

  tick : (w : World) (old : Connection) (numbers : List ℕ) (now : Connection → Now) (k : ℕ) (side : Side) → is_live old.state ≡ true
      → FitConn old → All IsU32 numbers → ((c : Connection) → FitConn c → IsNow (now c)) →
      G k side old w.sent → Steps m G other reset evict mark w (asked m now (on_tick m old numbers)) k side
  tick w old numbers now k side lv f n is g =
      let o : Outcome = on_tick m old numbers in
      let fo : FitOut o = on_tick_fits m steady old numbers f n in
      let fit : FitConn (asked m now o).connection = stepped_fits m steady Any_low (λ p f. tt) now o is fo in
      let h : OutReported m steady Any_low (λ p f. tt) old (asked m now o) = stepped_reports m steady Any_low (λ p f. tt) now old o is fo
      (tick_reports m steady Any_low (λ p f. tt) old numbers (g.reported.safe lv)) in
      steps_by w old (asked m now o) false k side lv g fit h (asked_moves m false old now o (tick_moves m old numbers))
      (RetransmissionInvariant.steps_by m steady w old (asked m now o) k side lv fit (asked_lens m now o (on_tick_lens m old numbers g.reported.lens))
      (near_by _ old (asked m now o).connection (asked_moves m false old now o (tick_moves m old numbers))) h g.reported)
      (PrefixAndWhole.tick m ports w old numbers now k side lv f n is g.good) (λ r cl p q a. absurd (cc))

  born_exact : (speaker : Speaker) (k : ℕ) (client : AbstractClient) (history : List PastConnection) (d : Connection) (sent : List Sent)
      (opened : Option ℕ) → ((o : ℕ) → opened ≡ Some o → length history ≤ o) → OpenedGood speaker client history closed opened
      → ExactOpen k client history d sent opened
  born_exact speaker k client history d sent None b h = tt
  born_exact speaker k client history d sent (Some o) b h = absurd (let z : false ≡ true = h.then_live (let y = b o refl in
      let t = h.time in omega (arith, t, y)) in cc)

  birth : (w : World) (iss : ℕ) (sockets : Sockets) (k j : ℕ) (side : Side) (e : Sent) → client_sockets side ≡ sockets
      → slice_get w.sent j ≡ Some e → e.who ≡ from k → (is_clean side ≡ true → e.epoch ≡ length side.history) → is_plain_syn (seg e) ≡ true
      → FitConn (accepted iss sockets (seg e)) → G k side closed w.sent →
      (tick id : ℕ) → G k side (accepted iss sockets (seg e)) (w.sent ++ entry (to k) side tick id (model false (syn_ack (accepted iss sockets (seg e)))) ∷ [])
  birth w iss sockets k j side e own sent who fresh plain fit g tick id =
      let c : Connection = accepted iss sockets (seg e) in
      let new : Sent = entry (to k) side tick id (model false (syn_ack c)) in
      let t : RetransmissionInvariant.Reported m steady k side c (w.sent ++ new ∷ []) = RetransmissionInvariant.birth m steady w iss sockets
      k j side e own sent who fresh plain fit g.reported tick id in
      record {
        reported = t;
        good = PrefixAndWhole.birth m ports w iss sockets k j side e own sent who fresh plain fit g.good tick id;
        ends = λ r. push_ends k side c w.sent new (λ l i f x wf q pl. absurd (let z : false ≡ true = (g.reported.tells i f x wf pl q).0 in cc))
            (λ l x. new_ends c (syn_ack c) (omega arith) (t.safe refl)
            (λ y. record { len = omega arith; seq = refl; alike = Rattle.uip_node.proofs.Outstanding.alike_refl (syn_ack c) }));
        exact = push_aside k side c w.sent new (λ y. absurd (cc))
            (λ r cl. (let y = PrefixAndWhole.born_by m ports side e ((g.good cl).of_client j e sent who).output
            (PrefixAndWhole.plain_is m ports (seg e) plain) in
            born_exact (PrefixAndWhole.speaker_of m ports side) k side.client side.history c w.sent side.opened
            (λ o q. subst (λ n. n ≤ o) (fresh cl) (y.before o q)) (g.good cl).opened_good));
      }

  text_exact : (speaker : Speaker) (k : ℕ) (client d : AbstractClient) (history : List PastConnection) (c : Connection) (sent : List Sent)
      (opened : Option ℕ) (s : PlainSegment) → is_live c.state ≡ true → c.acked + c.len < 4294967296 → EndsBy c s
      → OpenedGood speaker client history c opened → is_receiving client.state ≡ true →
      s.seq ≡ client.expected → occupies_sequence_space s ≡ true → d.received ≡ client.received ++ s.text
      → d.expected ≡ wrap (client.expected + length s.text + one_if (has_fin s.flags)) → has_closed d.state ≡ has_fin s.flags →
      ExactOpen k client history c sent opened → ExactOpen k d history c sent opened
  text_exact speaker k client d history c sent None s l top en h i q p r e n x = tt
  text_exact speaker k client d history c sent (Some o) s l top en h i q p r e n x =
      let iss : (era history c o).iss ≡ c.iss = first_here speaker client history c o l h in
      let unclosed : one_if (has_closed client.state) ≡ 0 = ap one_if (receiving_not_done client.state i) in
      let longer : length d.received ≡ length client.received + length s.text = ap (λ (y : List ℕ). length y) r ∙ length-append client.received s.text in
      let fin : one_if (has_closed d.state) ≡ one_if (has_fin s.flags) = ap one_if n in
      let b : count d ≡ count client + length s.text + one_if (has_fin s.flags) = omega (arith, unclosed, longer, fin) in
      let low : 1 + count client < 4294967296 = (let z = x.high l in omega (arith, z, top)) in
      let seq : s.seq ≡ wrap (c.iss + (1 + count client)) = q ∙ x.expected ∙ ap (λ z. wrap (z + 1 + count client)) iss ∙ ap wrap (omega arith) in
      let end : 1 + count client + length s.text + one_if (has_fin s.flags) ≤ c.acked + c.len = en p (1 + count client) low seq in
      record {
        expected = (let place : ℕ = (era history c o).iss + 1 + count client in
            let joined : wrap (wrap place + length s.text + one_if (has_fin s.flags))
            ≡ wrap (wrap place + (length s.text + one_if (has_fin s.flags))) = ap wrap (omega arith) in
            let after : wrap (place + (length s.text + one_if (has_fin s.flags))) ≡ wrap ((era history c o).iss + 1 + count d) = ap wrap (omega (arith, b)) in
            e ∙ ap (λ z. wrap (z + length s.text + one_if (has_fin s.flags))) x.expected ∙ joined
            ∙ wrap_wrap place (length s.text + one_if (has_fin s.flags)) ∙ after);
        low = λ y. (let z = x.low l in omega (arith, z, b));
        high = λ y. omega (arith, end, b);
        acks = λ j t z w v g. (let u = x.acks j t z w v g in record { at = u.at; low = (let y = u.low in omega (arith, y, b)); is = u.is });
      }

  -- a client that opens
  syn_seq : (speaker : Speaker) (client : AbstractClient) (P : Type 0) (iss : ℕ) (captures : List Snapshot) (s : PlainSegment)
      → has_rst s.flags ≡ false → has_syn s.flags ≡ true → NodeSent speaker client P iss captures s → s.seq ≡ wrap iss
  syn_seq speaker client P iss captures s nr sy (node_reset r) = absurd (cc)
  syn_seq speaker client P iss captures s nr sy (node_syn r n) = n.seq
  syn_seq speaker client P iss captures s nr sy (node_ack r n) = absurd (let z : has_syn s.flags ≡ false = n.no_syn in cc)
  syn_seq speaker client P iss captures s nr sy (node_text r p n) = absurd (let z : has_syn s.flags ≡ false = n.no_syn in cc)
  syn_seq speaker client P iss captures s nr sy (node_fin r p n) = absurd (let z : has_syn s.flags ≡ false = n.no_syn in cc)

  never_acked : (client : AbstractClient) (at_epoch : ℕ) (s : PlainSegment) → ClientSent client None at_epoch s → has_rst s.flags ≡ false
      → has_ack s.flags ≡ true → ⊥
  never_acked client at_epoch s (sent_reset r) n a = absurd (cc)
  never_acked client at_epoch s (sent_syn y) n a = absurd (let z : has_ack s.flags ≡ false = y.no_ack in cc)
  never_acked client at_epoch s (sent_data d) n a = absurd (let z : false ≡ true = d.opened_is in cc)

  open_exact : (speaker : Speaker) (k : ℕ) (client d : AbstractClient) (history : List PastConnection) (c : Connection) (sent : List Sent)
      (s : PlainSegment) (P : Type 0) → is_live c.state ≡ true → Good speaker k client None history c sent →
      has_rst s.flags ≡ false → has_syn s.flags ≡ true → NodeSent speaker client P (era history c (length history)).iss
      (era history c (length history)).snapshots s → d.received ≡ client.received → d.expected ≡ wrap (s.seq + 1) → has_closed d.state ≡ false →
      Exact k d history c (length history) sent
  open_exact speaker k client d history c sent s P l g nr sy output r e n =
      let empty : length d.received ≡ 0 = ap (λ (x : List ℕ). length x) (r ∙ g.opened_good.nothing) in
      let unclosed : one_if (has_closed d.state) ≡ 0 = ap one_if n in
      let z : count d ≡ 0 = omega (arith, empty, unclosed) in
      let y = (unopened speaker client c c.state l (g.connection l).state).1 in
      let y0 = y.acked in
      let y1 = y.len in
      let q : s.seq ≡ wrap (era history c (length history)).iss = syn_seq speaker client P (era history c (length history)).iss
      (era history c (length history)).snapshots s nr sy output in
      record {
        expected = e ∙ ap (λ x. wrap (x + 1)) q ∙ wrap_wrap (era history c (length history)).iss 1 ∙ ap wrap (omega (arith, z));
        low = λ x. omega (arith, y0, z);
        high = λ x. omega (arith, y0, y1, z);
        acks = λ j t x w v a. absurd (never_acked client t.epoch (seg t) (g.of_client j t x w).output v a);
      }

  -- the client takes a datagram
  kind_exact : (speaker : Speaker) (k : ℕ) (client d : AbstractClient) (history : List PastConnection) (c : Connection) (sent : List Sent)
      (opened : Option ℕ) (e : Sent) → Kind client (seg e) d → e.epoch ≡ length history
      → (is_live c.state ≡ true → c.acked + c.len < 4294967296) → (is_live c.state ≡ true → EndsBy c (seg e)) →
      ToGood speaker client opened history c e → Good speaker k client opened history c sent → ExactOpen k client history c sent opened
      → ExactOpen k d history c sent (if becomes_opened client.state d.state then Some (length history) else opened)
  kind_exact speaker k client d history c sent opened e (kept r x n b) fresh f en t g y =
      subst (λ z. ExactOpen k d history c sent (if z then Some (length history) else opened)) (sym b)
      (kept_exact k client d history c sent opened x (count_kept client d r n) y)
  kind_exact speaker k client d history c sent opened e (took_text q i nr p r x n) fresh f en t g y =
      let l : is_live c.state ≡ true = t.incarnations nr fresh in
      subst (λ z. ExactOpen k d history c sent (if z then Some (length history) else opened)) (sym (receiving_stays client.state d.state i))
      (text_exact speaker k client d history c sent opened (seg e) l (f l) (en l) g.opened_good i q p r x n y)
  kind_exact speaker k client d history c sent (Some o) e (took_open st nr sy r x n) fresh f en t g y = absurd
      (let h : is_unasked client.state ≡ false = g.opened_good.asked in let z : is_unasked client.state ≡ true = ap is_unasked st in cc)
  kind_exact speaker k client d history c sent None e (took_open st nr sy r x n) fresh f en t g y =
      let l : is_live c.state ≡ true = t.incarnations nr fresh in
      let o : Exact k d history c (length history) sent = open_exact speaker k client d history c sent (seg e) (None ≡ Some e.epoch) l g nr
      sy (subst (λ z. NodeSent speaker client (None ≡ Some e.epoch) (era history c z).iss (era history c z).snapshots (seg e)) fresh t.output) r x n in
      exact_either (becomes_opened client.state d.state) o
    where
      exact_either : (b : Bool) → Exact k d history c (length history) sent → ExactOpen k d history c sent (if b then Some (length history) else None)
      exact_either true o = o
      exact_either false o = tt

  abbrev ReportedTakes : World → ℕ → Side → Connection → ClientStep → Type 0
  ReportedTakes w k base c t = Refines m (RetransmissionInvariant.Reported m steady) (RetransmissionInvariant.other m steady)
      (RetransmissionInvariant.reset m steady) (RetransmissionInvariant.evict m steady) (RetransmissionInvariant.mark m steady) w k base c t

  abbrev GoodTakes : World → ℕ → Side → Connection → ClientStep → Type 0
  GoodTakes w k base c t = Refines m (PrefixAndWhole.G m ports) (PrefixAndWhole.other m ports) (PrefixAndWhole.reset m ports)
      (PrefixAndWhole.evict m ports) (PrefixAndWhole.mark m ports) w k base c t

  took_by : (w : World) (k : ℕ) (base : Side) (c : Connection) (t : ClientStep) → G k base c w.sent → GoodTakes w k base c t → Acks t →
      (length w.sent ≤ 65535 → is_clean base ≡ true → ExactOpen k t.client base.history c w.sent (with_client base t.client).opened)
      → Refines m G other reset evict mark w k base c t
  took_by w k base c t g p a x =
      let reported : ReportedTakes w k base c t = RetransmissionInvariant.takes m steady w k base c t g.reported in
      record {
        quiet = λ n. record { reported = reported.quiet n; good = p.quiet n; ends = g.ends; exact = x };
        says = λ s e tick. record {
          reported = reported.says s e tick;
          good = p.says s e tick;
          ends = λ r. push_ends k (with_client base t.client) c w.sent (entry (from k) (with_client base t.client) tick 0 (model false s))
              (g.ends (room_before w.sent (entry (from k) (with_client base t.client) tick 0 (model false s)) r)) (λ l z. absurd (cc));
          exact = λ r cl. push_exact k t.client base.history c w.sent (entry (from k) (with_client base t.client) tick 0 (model false s))
              (with_client base t.client).opened (x (room_before w.sent (entry (from k) (with_client base t.client) tick 0 (model false s)) r) cl)
              (λ o q f n h. sent_acks k t.client base.history c w.sent (with_client base t.client).opened s
              (x (room_before w.sent (entry (from k) (with_client base t.client) tick 0 (model false s)) r) cl) (a s e n h) o q);
        };
      }

  took : (w : World) (k j : ℕ) (side : Side) (c : Connection) (number : ℕ) (e : Sent)
      → ((o : ℕ) → All IsSnapshot (era side.history c o).snapshots) → slice_get w.sent j ≡ Some e → e.who ≡ to k → G k side c w.sent →
      Refines m G other reset evict mark w k (marked side number e) c (client_takes side.client (seg e))
  took w k j side c number e fit sent who g =
      let n : Counted side.client (seg e) (client_takes side.client (seg e)) = client_counted side.client (seg e) in
      took_by w k (marked side number e) c (client_takes side.client (seg e)) (mark k side c w.sent number e g)
      (PrefixAndWhole.took m ports w k j side c number e fit sent who g.good) n.acks
      (λ r cl. (let a = clean_before side number e cl in
      let h = g.good a.0 in
      kind_exact (PrefixAndWhole.speaker_of m ports side) k side.client (client_takes side.client (seg e)).client side.history c w.sent
      side.opened e n.kind a.1 (top_low k side c w.sent g.reported r) (λ l. g.ends r l j e sent who a.1) (h.of_node j e sent who) h (g.exact r a.0)))

  own_by : (w : World) (k : ℕ) (side : Side) (c : Connection) (t : ClientStep) → G k side c w.sent → Idles side.client t
      → GoodTakes w k side c t → Refines m G other reset evict mark w k side c t
  own_by w k side c t g n p =
      took_by w k side c t g p n.acks
      (λ r cl. subst (λ z. ExactOpen k t.client side.history c w.sent (if z then Some (length side.history) else side.opened)) (sym n.same)
      (kept_exact k side.client t.client side.history c w.sent side.opened n.expected (count_kept side.client t.client n.received n.done) (g.exact r cl)))

  nothing_opened : (o : Option ℕ) → o ≡ None → (k : ℕ) (client : AbstractClient) (history : List PastConnection) (c : Connection)
      (sent : List Sent) → ExactOpen k client history c sent o
  nothing_opened None e k client history c sent = tt
  nothing_opened (Some o) e k client history c sent = absurd (cc)

  opening_exact : (addr : Addr) (numbers : List ℕ) (plan : List Planned) → IsPlan plan → Framed m G other reset evict mark (initial_world addr numbers plan)
  opening_exact addr numbers plan is =
      let a = RetransmissionInvariant.opening_reported m steady addr numbers plan is in
      let b = PrefixAndWhole.opening_framed m ports addr numbers plan is in
      record {
        apart = a.apart;
        single = a.single;
        each = λ k side x. (let p = Rattle.uip_node.proofs.Connections.get_map Rattle.link_world.specs.History.fresh_side plan k side x in record {
          reported = a.each k side x;
          good = b.each k side x;
          ends = λ r l j e y. absurd (cc);
          exact = λ r cl. nothing_opened side.opened (ap (λ (o : Side). o.opened) (sym p.is)) k side.client side.history _ [];
        });
      }

  -- what each harmless act keeps
  act_exact : (served : ℕ → Bool) (v : World) (act : Act) → Harmless m served v act → Framed m G other reset evict mark v → FitWorld v
      → Framed m G other reset evict mark (does m served v act)
  act_exact served v act harm g fits = does_framed m G other reset evict mark steady served segment tick birth record {
    took = took;
    opens = λ w k side c fit g. own_by w k side c (client_opens side.client) g (opens_idles side.client)
        (PrefixAndWhole.own_open m ports w k side c fit g.good);
    again = λ w k side c fit g. own_by w k side c (client_again side.client) g (again_idles side.client)
        (PrefixAndWhole.own_again m ports w k side c fit g.good);
    closes = λ w k side c fit g. own_by w k side c (client_closes side.client) g (closes_idles side.client)
        (PrefixAndWhole.own_close m ports w k side c fit g.good);
    aborts = λ w k side c fit g. own_by w k side c (client_aborts side.client) g (aborts_idles side.client)
        (PrefixAndWhole.own_abort m ports w k side c fit g.good);
    windows = λ x w k side c fit g. own_by w k side c (advertises_window x side.client) g
        (idles_quiet side.client (record side.client { window = x }) refl refl refl (same_becomes side.client.state))
        (PrefixAndWhole.own_window m ports x w k side c fit g.good);
  }
      v act harm g fits

  abbrev ExactWorld : World → Type 0
  ExactWorld w = Framed m G other reset evict mark w

  in_step : (w : World) (k : ℕ) (side : Side) (c : Connection) (o : Option ℕ) → ExactOpen k side.client side.history c w.sent o → (n : ℕ)
      → o ≡ Some n → IsInStep w (Rattle.std.proofs.Common.suc k) side.client c (era side.history c n).iss
  in_step w k side c None x n e = absurd (cc)
  in_step w k side c (Some p) x n e = subst (λ z. IsInStep w (Rattle.std.proofs.Common.suc k) side.client c (era side.history c z).iss)
      (let q : p ≡ n = cc in q) record {
        ahead = count side.client;
        expected = x.expected;
        acknowledges = λ j s id t y w r u a. (let q : seg s ≡ t = ap segment_in r in
            let b = x.acks j s y w (ap (λ (z : PlainSegment). has_rst z.flags) q ∙ u) (ap (λ (z : PlainSegment). has_ack z.flags) q ∙ a) in
            (b.at, b.low, ap (λ (z : PlainSegment). z.ack) (sym q) ∙ b.is));
        least = x.low;
        most = x.high;
      }

  -- each clean client is in step, as far as the walk reaches
  in_step_by : (w : World) → ExactWorld w → HasRoom w → (k : ℕ) (side : Side) → slice_get w.sides k ≡ Some side → is_clean side ≡ true
      → (o : ℕ) → side.opened ≡ Some o →
      IsInStep w (Rattle.std.proofs.Common.suc k) side.client (server_side w side) (era side.history (server_side w side) o).iss
  in_step_by w g room k side x clean o e = in_step w k side (server_side w side) side.opened ((g.each k side x).exact room clean) o e

  pub in_step_plainly : (w : World) → IsReachedPlainly m w → (k : ℕ) (side : Side) → slice_get w.sides k ≡ Some side → is_clean side ≡ true
      → (o : ℕ) → side.opened ≡ Some o →
      IsInStep w (Rattle.std.proofs.Common.suc k) side.client (server_side w side) (era side.history (server_side w side) o).iss
  in_step_plainly w r = in_step_by w (reached_plainly m steady ExactWorld act_exact opening_exact w r) (room_plainly m w r)

  pub in_step_where : (pages : Pages) (H : Connection → Type 0) → (HasBytes pages → SendsBytesWhere m H) → (w : World) → IsReached m pages w
      → (k : ℕ) (side : Side) → slice_get w.sides k ≡ Some side → is_clean side ≡ true → (o : ℕ) → side.opened ≡ Some o →
      IsInStep w (Rattle.std.proofs.Common.suc k) side.client (server_side w side) (era side.history (server_side w side) o).iss
  in_step_where pages H bytes w r = in_step_by w (reached_where m pages steady H bytes ExactWorld act_exact opening_exact w r)
      (room_where m pages steady H bytes w r)

pub one_segment : OneSegment
one_segment m pages lawful w r k side x clean o e =
    in_step_where m (everywhere m pages lawful) pages DeliveredBytes (pages_send_bytes m pages lawful) w r k side x clean o e
