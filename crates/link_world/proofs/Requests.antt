-- How much of a request the server has accepted, beside Prefix and whole.
use Rattle.link_world.proofs.Prelude.{All, ◌≡◌, ℕ, ◌+◌, ◌<◌, ◌≤◌, Bool, true, false, inl, inr, List, [], ◌∷◌, ◌++◌, length, replicate, refl}
use Rattle.link_world.proofs.Prelude.{sym, ap, ◌∙◌, subst, arith, Option, Some, None, slice_get, if◌then◌else◌, wrap, Addr, PlainSegment}
use Rattle.link_world.proofs.Prelude.{has_syn, has_fin, has_rst, has_ack, AppSpec, Pages, IsPaged, IsSnapshot, IsNow, IsU32, Now, Sockets}
use Rattle.link_world.proofs.Prelude.{Connection, closed, is_live, is_plain_syn, is_again, syn_ack, Outcome, asked, accepted, on_segment}
use Rattle.link_world.proofs.Prelude.{on_tick, AbstractClient, ClientStep, one_if, fin_sent, own_first, client_takes, client_opens}
use Rattle.link_world.proofs.Prelude.{client_again, client_closes, client_aborts, advertises_window, World, Side, Sent, PastConnection}
use Rattle.link_world.proofs.Prelude.{becomes_opened, with_client, marked, is_clean, client_sockets, era, fresh_side, Planned, IsPlan}
use Rattle.link_world.proofs.Prelude.{initial_world, serving, IsReached, steady_of, same_place, get_push, zero_or_more, older, newest}
use Rattle.link_world.proofs.Prelude.{FitConn, get_map}
use Rattle.link_world.proofs.Speaking.{paged}
use Rattle.link_world.proofs.CleanClientInvariant.{seg, no_segment, is_early, from, to, ClientSent, OpenedGood, Good, Steady, unopened}
use Rattle.link_world.proofs.CleanClientInvariant.ClientSent.{sent_reset, sent_syn, sent_data}
use Rattle.link_world.proofs.Sides.{clean_before}
use Rattle.link_world.proofs.Runs.{reached}
use Rattle.link_world.proofs.OneClientFact.{Framed, Steps, Refines, model, entry, does_framed}
use Rattle.link_world.proofs.OneClientFact
use Rattle.link_world.proofs.Asking.{used, asked_bytes, EndsIn, AsksOn, client_asks, opens_asks, again_asks, closes_asks, aborts_asks}
use Rattle.link_world.proofs.Asking.{window_asks, asked_takes, some_place, segment_takes, tick_takes, sends_taken}
use Rattle.link_world.proofs.Asking
use Rattle.link_world.proofs.PrefixAndWhole.{everywhere}
use Rattle.link_world.proofs.PrefixAndWhole

-- The connection accepted no more of the client's numbers than were used. Its application received no more than was accepted,
-- and no more of the request than was sent.
pub record Within (client : AbstractClient) (c : Connection) : Type 0 where
  pub high : c.taken ≤ used client
  pub input : length c.part.input ≤ c.taken
  pub asked : length c.part.input ≤ asked_bytes client

-- what the connection took of the client's numbers, and where each datagram of the client ends
pub record Requested (k : ℕ) (client : AbstractClient) (c : Connection) (sent : List Sent) : Type 0 where
  pub low : client.acked ≤ c.taken
  pub within : Within client c
  pub ends : (j : ℕ) (e : Sent) → slice_get sent j ≡ Some e → e.who ≡ from k → EndsIn client (seg e)

abbrev pub RequestedBy : ℕ → AbstractClient → Connection → List Sent → Option ℕ → Type 0
RequestedBy k client c sent None = used client ≡ 0
RequestedBy k client c sent (Some o) = is_live c.state ≡ true → Requested k client c sent

-- a number of the client that the node acknowledges
pub record Taken (client : AbstractClient) (c : Connection) (s : PlainSegment) : Type 0 where
  pub at : ℕ
  pub low : at ≤ c.taken
  pub is : s.ack ≡ wrap (own_first client + 1 + at)

abbrev pub Acks : ℕ → AbstractClient → ℕ → Connection → List Sent → Type 0
Acks k client epoch c sent = is_live c.state ≡ true → (j : ℕ) (e : Sent) → slice_get sent j ≡ Some e → e.who ≡ to k → e.epoch ≡ epoch
    → has_rst (seg e).flags ≡ false → has_ack (seg e).flags ≡ true → Taken client c (seg e)

push_acks : (k : ℕ) (client : AbstractClient) (epoch : ℕ) (c : Connection) (sent : List Sent) (e : Sent) → Acks k client epoch c sent
    → (e.who ≡ to k → has_rst (seg e).flags ≡ false → Taken client c (seg e)) → Acks k client epoch c (sent ++ e ∷ [])
push_acks k client epoch c sent e g n l j f x w q r a = elim (get_push sent e j f x) [
  | older z ↦ g l j f z w q r a
  | newest i z ↦ subst (λ (y : Sent). Taken client c (seg y)) z (n (ap (λ (y : Sent). y.who) z ∙ w) (ap (λ (y : Sent). has_rst (seg y).flags) z ∙ r))
]

push_requested : (k : ℕ) (client : AbstractClient) (c : Connection) (sent : List Sent) (e : Sent) (opened : Option ℕ)
    → RequestedBy k client c sent opened → (e.who ≡ from k → EndsIn client (seg e)) → RequestedBy k client c (sent ++ e ∷ []) opened
push_requested k client c sent e None g n = g
push_requested k client c sent e (Some o) g n = λ l. (let r = g l in record {
  low = r.low;
  within = r.within;
  ends = λ j f x w. elim (get_push sent e j f x) [
    | older z ↦ r.ends j f z w
    | newest i z ↦ subst (λ (y : Sent). EndsIn client (seg y)) z (n (ap (λ (y : Sent). y.who) z ∙ w))
  ];
})

-- the connection is gone
dead_requested : (k : ℕ) (client : AbstractClient) (c : Connection) (sent : List Sent) (opened : Option ℕ)
    → RequestedBy k client c sent opened → RequestedBy k client closed sent opened
dead_requested k client c sent None g = g
dead_requested k client c sent (Some o) g = λ l. absurd (cc)

-- the connection accepted this much more
live_requested : (k : ℕ) (client : AbstractClient) (c d : Connection) (sent : List Sent) (opened : Option ℕ) → is_live c.state ≡ true
    → c.taken ≤ d.taken → (Requested k client c sent → Within client d) → RequestedBy k client c sent opened → RequestedBy k client d sent opened
live_requested k client c d sent None l m n g = g
live_requested k client c d sent (Some o) l m n g = λ y. (let r = g l in record { low = (let z = r.low in omega (arith, z, m)); within = n r; ends = r.ends })

live_acks : (k : ℕ) (client : AbstractClient) (epoch : ℕ) (c d : Connection) (sent : List Sent) → is_live c.state ≡ true → c.taken ≤ d.taken
    → Acks k client epoch c sent → Acks k client epoch d sent
live_acks k client epoch c d sent l m g y j e x w q r a = (let t = g l j e x w q r a in
    record { at = t.at; low = (let z = t.low in omega (arith, z, m)); is = t.is })

one_small : (b : Bool) → one_if b ≤ 1
one_small true = omega arith
one_small false = omega arith

-- a segment with SYN is not accepted: it is before every number that is expected
not_syn : (client : AbstractClient) (opened : Option ℕ) (epoch taken : ℕ) (s : PlainSegment) → Steady client
    → ClientSent client opened epoch s → has_rst s.flags ≡ false → taken ≤ used client → s.seq ≡ wrap (own_first client + 1 + taken) → has_syn s.flags ≡ false
not_syn client opened epoch taken s st (sent_reset r) nr h q = absurd (let z : true ≡ false = sym r ∙ nr in cc)
not_syn client opened epoch taken s st (sent_data d) nr h q = d.no_syn
not_syn client opened epoch taken s st (sent_syn y) nr h q =
    let short = st.short in
    let fits = st.out_fits in
    let low = st.low in
    let small : one_if (fin_sent client.fin) ≤ 1 = one_small (fin_sent client.fin) in
    let start : wrap (own_first client + 0) ≡ own_first client = omega (arith, low) in
    let same : 0 ≡ 1 + taken = same_place (own_first client) 0 (1 + taken) (omega arith) (omega (arith, h, fits, short, small))
    (start ∙ sym y.seq ∙ q ∙ ap wrap (let z : own_first client + 1 + taken ≡ own_first client + (1 + taken) = omega arith in z)) in
    absurd (let z : ⊥ = omega (arith, same) in z)

module _ (m : AppSpec) (pages : Pages) (lawful : IsPaged m pages) where
  pub record G (k : ℕ) (side : Side) (c : Connection) (sent : List Sent) : Type 0 where
    pub good : PrefixAndWhole.G m (everywhere m pages lawful) k side c sent
    pub asked_by : is_clean side ≡ true → RequestedBy k side.client c sent side.opened
    pub acks : is_clean side ≡ true → Acks k side.client (length side.history) c sent

  pub other : (k : ℕ) (side : Side) (c : Connection) (sent : List Sent) (e : Sent) → G k side c sent → (e.who ≡ to k → ⊥)
      → (e.who ≡ from k → ⊥) → G k side c (sent ++ e ∷ [])
  other k side c sent e g t f = record {
    good = PrefixAndWhole.other m (everywhere m pages lawful) k side c sent e g.good t f;
    asked_by = λ cl. push_requested k side.client c sent e side.opened (g.asked_by cl) (λ w. absurd (f w));
    acks = λ cl. push_acks k side.client (length side.history) c sent e (g.acks cl) (λ w. absurd (t w));
  }

  not_both : (k : ℕ) (e : Sent) → e.who ≡ to k → e.who ≡ from k → ⊥
  not_both k e t f = absurd (let z : to k ≡ from k = sym t ∙ f in cc)

  pub reset : (k : ℕ) (side : Side) (c : Connection) (sent : List Sent) (e : Sent) → G k side c sent → e.epoch ≡ length side.history
      → has_syn (seg e).flags ≡ false → has_fin (seg e).flags ≡ false → (seg e).text ≡ [] → has_rst (seg e).flags ≡ true → e.again ≡ false
      → e.who ≡ to k → G k side c (sent ++ e ∷ [])
  reset k side c sent e g q sy fi te rs ag w = record {
    good = PrefixAndWhole.reset m (everywhere m pages lawful) k side c sent e g.good q sy fi te rs ag w;
    asked_by = λ cl. push_requested k side.client c sent e side.opened (g.asked_by cl) (λ f. absurd (not_both k e w f));
    acks = λ cl. push_acks k side.client (length side.history) c sent e (g.acks cl) (λ t r. absurd (let z : true ≡ false = sym rs ∙ r in cc));
  }

  pub evict : (k : ℕ) (side : Side) (c : Connection) (sent : List Sent) → is_live c.state ≡ true → G k side c sent
      → G k (OneClientFact.older side c) closed sent
  evict k side c sent l g = record {
    good = PrefixAndWhole.evict m (everywhere m pages lawful) k side c sent l g.good;
    asked_by = λ cl. dead_requested k side.client c sent side.opened (g.asked_by cl);
    acks = λ cl x. absurd (cc);
  }

  pub mark : (k : ℕ) (side : Side) (c : Connection) (sent : List Sent) (n : ℕ) (e : Sent) → G k side c sent → G k (marked side n e) c sent
  mark k side c sent n e g = record {
    good = PrefixAndWhole.mark m (everywhere m pages lawful) k side c sent n e g.good;
    asked_by = λ cl. g.asked_by (clean_before side n e cl).0;
    acks = λ cl. g.acks (clean_before side n e cl).0;
  }

  abbrev GoodSteps : World → Outcome → ℕ → Side → Type 0
  GoodSteps w o k side = Steps m (PrefixAndWhole.G m (everywhere m pages lawful)) (PrefixAndWhole.other m (everywhere m pages lawful))
      (PrefixAndWhole.reset m (everywhere m pages lawful)) (PrefixAndWhole.evict m (everywhere m pages lawful))
      (PrefixAndWhole.mark m (everywhere m pages lawful)) w o k side

  steps_by : (w : World) (old : Connection) (o : Outcome) (k : ℕ) (side : Side) (s : PlainSegment) → is_live old.state ≡ true
      → G k side old w.sent → Asking.Refines old o.connection s →
      (is_clean side ≡ true → Requested k side.client old w.sent → Within side.client o.connection) → GoodSteps w o k side
      → Steps m G other reset evict mark w o k side
  steps_by w old o k side s lv g t enough p =
      let d : Connection = o.connection in
      let more : old.taken ≤ d.taken = (let z = t.row.more in omega (arith, z)) in
      let live = λ (cl : is_clean side ≡ true). live_requested k side.client old d w.sent side.opened lv more (enough cl) (g.asked_by cl) in
      let acked = λ (cl : is_clean side ≡ true). live_acks k side.client (length side.history) old d w.sent lv more (g.acks cl) in
      let dead = λ (cl : is_clean side ≡ true). dead_requested k side.client old w.sent side.opened (g.asked_by cl) in
      record {
        quiet = λ n l. record { good = p.quiet n l; asked_by = live; acks = acked };
        quiet_last = λ n l. record { good = p.quiet_last n l; asked_by = dead; acks = λ cl x. absurd (cc) };
        says = λ x e l tick id. (let new : Sent = entry (to k) side tick id (model (is_again o.step) x) in record {
          good = p.says x e l tick id;
          asked_by = λ cl. push_requested k side.client d w.sent new side.opened (live cl) (λ y. absurd (cc));
          acks = λ cl. push_acks k side.client (length side.history) d w.sent new (acked cl)
              (λ y r. record {
                at = d.taken;
                low = omega arith;
                is = sends_taken m pages lawful d o.step x e r
                    ∙ ap (λ n. wrap (n + 1 + d.taken)) (t.row.peer ∙ (let y = (g.good cl).connection lv in y.irs));
              });
        });
        sends_last = λ x e l tick id. (let new : Sent = entry (to k) (OneClientFact.older side d) tick id (model (is_again o.step) x) in record {
          good = p.sends_last x e l tick id;
          asked_by = λ cl. push_requested k side.client closed w.sent new side.opened (dead cl) (λ y. absurd (cc));
          acks = λ cl x. absurd (cc);
        });
      }

  -- a segment of the client at its connection
  enough_room : (client : AbstractClient) (opened : Option ℕ) (epoch k j : ℕ) (c d : Connection) (sent : List Sent) (e : Sent)
      → Steady client → ClientSent client opened epoch (seg e) → c.irs ≡ own_first client → slice_get sent j ≡ Some e → e.who ≡ from k →
      Asking.Refines c d (seg e) → Requested k client c sent → Within client d
  enough_room client opened epoch k j c d sent e st output iss there who t r =
      let row = t.row in
      let more = row.more in
      let now = row.input in
      let text = row.handed_text in
      let taken = row.handed_taken in
      let high = r.within.high in
      let delivered = r.within.input in
      let before = r.within.asked in
      elim (zero_or_more row.count) [
        | inl z ↦ record {
          high = omega (arith, z, high, more);
          input = omega (arith, z, delivered, more, now, taken);
          asked = omega (arith, z, before, now, taken);
        }
        | inr l ↦ (let at = t.place l in
            let seq : (seg e).seq ≡ wrap (own_first client + 1 + c.taken) = at.0 ∙ ap (λ n. wrap (n + 1 + c.taken)) iss in
            let small : one_if (fin_sent client.fin) ≤ 1 = one_small (fin_sent client.fin) in
            let short = st.short in
            let fits = st.out_fits in
            let low : c.taken < 4294967296 = omega (arith, high, short, fits, small) in
            let end = r.ends j e there who at.1 (not_syn client opened epoch c.taken (seg e) st output at.1 high seq)
            (some_place m pages lawful (seg e) row.count row.most l) c.taken low seq in
            let all = end.all in
            let most = row.most in
            let output = end.text in
            record {
              high = omega (arith, all, more, most);
              input = omega (arith, delivered, more, now, taken);
              asked = omega (arith, delivered, now, text, output);
            })
      ]

  segment : (w : World) (old : Connection) (numbers : List ℕ) (now : Connection → Now) (k j : ℕ) (side : Side) (e : Sent)
      → is_live old.state ≡ true → FitConn old → All IsU32 numbers → ((c : Connection) → FitConn c → IsNow (now c)) →
      slice_get w.sent j ≡ Some e → e.who ≡ from k → (is_clean side ≡ true → e.epoch ≡ length side.history) → G k side old w.sent
      → Steps m G other reset evict mark w (asked m now (on_segment m old numbers (seg e))) k side
  segment w old numbers now k j side e lv f n is sent who fresh g =
      let o : Outcome = on_segment m old numbers (seg e) in
      let t = asked_takes m pages lawful now old (seg e) o (segment_takes m pages lawful old numbers (seg e)) in
      steps_by w old (asked m now o) k side (seg e) lv g t
      (λ cl r. (let h = g.good cl in let c = h.connection lv in enough_room side.client side.opened e.epoch k j old
      (asked m now o).connection w.sent e h.steady (h.of_client j e sent who).output c.irs sent who t r))
      (PrefixAndWhole.segment m (everywhere m pages lawful) w old numbers now k j side e lv f n is sent who fresh g.good)

  -- a tick brings no segment
  nothing_more : (client : AbstractClient) (c d : Connection) → Asking.Row c d no_segment → Within client c → Within client d
  nothing_more client c d row g =
      let more = row.more in
      let most = row.most in
      let now = row.input in
      let none = row.handed_text in
      let high = g.high in
      let delivered = g.input in
      let asked = g.asked in
      record { high = omega (arith, high, more, most); input = omega (arith, delivered, more, now, none); asked = omega (arith, asked, now, none) }

  tick : (w : World) (old : Connection) (numbers : List ℕ) (now : Connection → Now) (k : ℕ) (side : Side) → is_live old.state ≡ true
      → FitConn old → All IsU32 numbers → ((c : Connection) → FitConn c → IsNow (now c)) →
      G k side old w.sent → Steps m G other reset evict mark w (asked m now (on_tick m old numbers)) k side
  tick w old numbers now k side lv f n is g =
      let o : Outcome = on_tick m old numbers in
      let t = asked_takes m pages lawful now old no_segment o (tick_takes m pages lawful old numbers no_segment) in
      steps_by w old (asked m now o) k side no_segment lv g t (λ cl r. nothing_more side.client old (asked m now o).connection t.row r.within)
      (PrefixAndWhole.tick m (everywhere m pages lawful) w old numbers now k side lv f n is g.good)

  born_requested : (k : ℕ) (client : AbstractClient) (history : List PastConnection) (d : Connection) (sent : List Sent) (opened : Option ℕ)
      → ((o : ℕ) → opened ≡ Some o → length history ≤ o) → OpenedGood (paged pages) client history closed opened
      → RequestedBy k client closed sent opened → RequestedBy k client d sent opened
  born_requested k client history d sent None b h g = g
  born_requested k client history d sent (Some o) b h g = absurd (let z : false ≡ true = h.then_live (let y = b o refl in let t = h.time in
      omega (arith, t, y)) in cc)

  birth : (w : World) (iss : ℕ) (sockets : Sockets) (k j : ℕ) (side : Side) (e : Sent) → client_sockets side ≡ sockets
      → slice_get w.sent j ≡ Some e → e.who ≡ from k → (is_clean side ≡ true → e.epoch ≡ length side.history) → is_plain_syn (seg e) ≡ true
      → FitConn (accepted iss sockets (seg e)) → G k side closed w.sent →
      (tick id : ℕ) → G k side (accepted iss sockets (seg e)) (w.sent ++ entry (to k) side tick id (model false (syn_ack (accepted iss sockets (seg e)))) ∷ [])
  birth w iss sockets k j side e own sent who fresh plain fit g tick id =
      let c : Connection = accepted iss sockets (seg e) in
      let new : Sent = entry (to k) side tick id (model false (syn_ack c)) in
      let good = PrefixAndWhole.birth m (everywhere m pages lawful) w iss sockets k j side e own sent who fresh plain fit g.good tick id in
      let none = λ (cl : is_clean side ≡ true) (l : is_live c.state ≡ true) (i : ℕ) (f : Sent) (x : slice_get w.sent i ≡ Some f)
      (v : f.who ≡ to k) (q : f.epoch ≡ length side.history) (r : has_rst (seg f).flags ≡ false) (a : has_ack (seg f).flags ≡ true).
      absurd {A = Taken side.client c (seg f)} (let z : false ≡ true = ((g.good cl).of_node i f x v).incarnations r q in cc) in
      record {
        good = good;
        asked_by = λ cl. push_requested k side.client c w.sent new side.opened
            (born_requested k side.client side.history c w.sent side.opened
            (λ o q. (let y = PrefixAndWhole.born_by m (everywhere m pages lawful) side e ((g.good cl).of_client j e sent who).output
            (PrefixAndWhole.plain_is m (everywhere m pages lawful) (seg e) plain) in subst (λ n. n ≤ o) (fresh cl) (y.before o q)))
            (g.good cl).opened_good (g.asked_by cl))
            (λ y. absurd (cc));
        acks = λ cl. push_acks k side.client (length side.history) c w.sent new (none cl)
            (λ y r. (let z = (good cl).connection refl in record { at = 0; low = omega arith; is = ap (λ n. wrap (n + 1 + 0)) z.irs }));
      }

  -- the client's numbers go on
  goes_on : (k : ℕ) (client d : AbstractClient) (c : Connection) (sent : List Sent) → used client ≤ used d
      → asked_bytes client ≤ asked_bytes d → own_first d ≡ own_first client → d.acked ≤ c.taken → Requested k client c sent → Requested k d c sent
  goes_on k client d c sent u b f l r = record {
    low = l;
    within = (let z = r.within.high in let y = r.within.asked in record { high = omega (arith, z, u); input = r.within.input; asked = omega (arith, y, b) });
    ends = λ j e x w nr ns p at lo q.
        (let z = r.ends j e x w nr ns p at lo (q ∙ ap (λ n. wrap (n + 1 + at)) f) in let all = z.all in let text = z.text in
        record { text = omega (arith, text, b); all = omega (arith, all, u) });
  }

  acks_go_on : (k : ℕ) (client d : AbstractClient) (epoch : ℕ) (c : Connection) (sent : List Sent) → own_first d ≡ own_first client
      → Acks k client epoch c sent → Acks k d epoch c sent
  acks_go_on k client d epoch c sent f g l j e x w q r a = (let t = g l j e x w q r a in
      record { at = t.at; low = t.low; is = t.is ∙ ap (λ n. wrap (n + 1 + t.at)) (sym f) })

  never_asked : (client d : AbstractClient) (epoch : ℕ) (s : PlainSegment) → ClientSent client None epoch s → EndsIn d s
  never_asked client d epoch s (sent_reset r) nr ns = absurd (let z : true ≡ false = sym r ∙ nr in cc)
  never_asked client d epoch s (sent_syn y) nr ns = absurd (let z : true ≡ false = sym y.syn ∙ ns in cc)
  never_asked client d epoch s (sent_data x) nr ns = absurd (let z : false ≡ true = x.opened_is in cc)

  acked_low : (client : AbstractClient) (s : PlainSegment) (t : ClientStep) → AsksOn client s t → used client ≡ 0 → t.client.acked ≡ 0
  acked_low client s t a z = elim a.acked [ inl e ↦ omega (arith, e, z) | inr e ↦ (let y = e.3 in omega (arith, y, z)) ]

  early_of : (client : AbstractClient) (history : List PastConnection) (c : Connection) (o : Option ℕ) → o ≡ None
      → OpenedGood (paged pages) client history c o → is_early client.state ≡ true
  early_of client history c None e h = h.early
  early_of client history c (Some o) e h = absurd (cc)

  -- what a step of the client leaves
  after_step : (k : ℕ) (client : AbstractClient) (history : List PastConnection) (c : Connection) (sent later : List Sent)
      (opened : Option ℕ) (s : PlainSegment) (t : ClientStep) (b : Bool) → Good (paged pages) k client opened history c sent → AsksOn client s t →
      Good (paged pages) k t.client (if b then Some (length history) else opened) history c later
      → (is_live c.state ≡ true → Requested k client c sent → t.client.acked ≤ c.taken) → RequestedBy k client c sent opened
      → RequestedBy k t.client c sent (if b then Some (length history) else opened)
  after_step k client history c sent later (Some o) s t true g a h low r = λ l. goes_on k client t.client c sent a.more a.further a.iss (low l (r l)) (r l)
  after_step k client history c sent later (Some o) s t false g a h low r = λ l. goes_on k client t.client c sent a.more a.further a.iss (low l (r l)) (r l)
  after_step k client history c sent later None s t false g a h low r = a.early h.opened_good.early ∙ r
  after_step k client history c sent later None s t true g a h low r = λ l. (let none = (unopened (paged pages) client c c.state l (g.connection l).state).1 in
      let zero = acked_low client s t a r in
      let silent : length c.part.input ≡ 0 = ap (λ (x : List ℕ). length x) none.input in
      let start = none.taken in
      record {
        low = omega (arith, zero);
        within = record {
          high = omega (arith, start);
          input = omega (arith, silent);
          asked = omega (arith, silent);
        };
        ends = λ j e x w. never_asked client t.client e.epoch (seg e) (g.of_client j e x w).output;
      })

  abbrev GoodTakes : World → ℕ → Side → Connection → ClientStep → Type 0
  GoodTakes w k base c t = Refines m (PrefixAndWhole.G m (everywhere m pages lawful)) (PrefixAndWhole.other m (everywhere m pages lawful))
      (PrefixAndWhole.reset m (everywhere m pages lawful)) (PrefixAndWhole.evict m (everywhere m pages lawful))
      (PrefixAndWhole.mark m (everywhere m pages lawful)) w k base c t

  took_by : (w : World) (k : ℕ) (base : Side) (c : Connection) (s : PlainSegment) (t : ClientStep) → G k base c w.sent
      → GoodTakes w k base c t → AsksOn base.client s t →
      (is_clean base ≡ true → is_live c.state ≡ true → Requested k base.client c w.sent → t.client.acked ≤ c.taken)
      → Refines m G other reset evict mark w k base c t
  took_by w k base c s t g p a low =
      let b : Bool = becomes_opened base.client.state t.client.state in
      let after = λ (later : List Sent) (h : is_clean base ≡ true → Good (paged pages) k t.client (with_client base t.client).opened
      base.history c later) (cl : is_clean base ≡ true).
      after_step k base.client base.history c w.sent later base.opened s t b (g.good cl) a (h cl) (low cl) (g.asked_by cl) in
      let acked = λ (cl : is_clean base ≡ true). acks_go_on k base.client t.client (length base.history) c w.sent a.iss (g.acks cl) in
      record {
        quiet = λ n. record { good = p.quiet n; asked_by = after w.sent (p.quiet n); acks = acked };
        says = λ x e tick. (let new : Sent = entry (from k) (with_client base t.client) tick 0 (model false x) in record {
          good = p.says x e tick;
          asked_by = λ cl. push_requested k t.client c w.sent new (with_client base t.client).opened
              (after (w.sent ++ new ∷ []) (p.says x e tick) cl) (λ y. a.ends (p.says x e tick cl).steady x e);
          acks = λ cl. push_acks k t.client (length base.history) c w.sent new (acked cl) (λ y. absurd (cc));
        });
      }

  -- an acknowledgement of all that the client used: it was taken
  received_taken : (client : AbstractClient) (c : Connection) (s : PlainSegment) (t : ClientStep) → Steady client → AsksOn client s t
      → (has_rst s.flags ≡ false → has_ack s.flags ≡ true → Taken client c s) → client.acked ≤ c.taken → c.taken ≤ used client → t.client.acked ≤ c.taken
  received_taken client c s t st a reported low high =
      elim a.acked [
        | inl e ↦ omega (arith, e, low)
        | inr e ↦ (let y = reported e.0 e.1 in
            let at = y.low in
            let small : one_if (fin_sent client.fin) ≤ 1 = one_small (fin_sent client.fin) in
            let short = st.short in
            let fits = st.out_fits in
            let joined : wrap (own_first client + 1 + client.acked + client.out + one_if (fin_sent client.fin)) ≡ wrap (own_first client + 1 + used client) =
            ap wrap (let z : own_first client + 1 + client.acked + client.out + one_if (fin_sent client.fin) ≡ own_first client + 1 +
            (client.acked + client.out + one_if (fin_sent client.fin)) = omega arith in z) in
            let all : y.at ≡ used client = same_place (own_first client + 1) y.at (used client)
            (omega (arith, at, high, short, fits, small)) (omega (arith, short, fits, small)) (sym y.is ∙ e.2 ∙ joined) in
            let now = e.3 in
            omega (arith, now, all, at))
      ]

  took : (w : World) (k j : ℕ) (side : Side) (c : Connection) (number : ℕ) (e : Sent)
      → ((o : ℕ) → All IsSnapshot (era side.history c o).snapshots) → slice_get w.sent j ≡ Some e → e.who ≡ to k → G k side c w.sent →
      Refines m G other reset evict mark w k (marked side number e) c (client_takes side.client (seg e))
  took w k j side c number e fit sent who g =
      let a = client_asks side.client (seg e) in
      took_by w k (marked side number e) c (seg e) (client_takes side.client (seg e)) (mark k side c w.sent number e g)
      (PrefixAndWhole.took m (everywhere m pages lawful) w k j side c number e fit sent who g.good) a
      (λ cl l r. (let b = clean_before side number e cl in
      received_taken side.client c (seg e) (client_takes side.client (seg e)) (g.good b.0).steady a
      (λ n h. g.acks b.0 l j e sent who b.1 n h) r.low r.within.high))

  own_by : (w : World) (k : ℕ) (side : Side) (c : Connection) (t : ClientStep) → G k side c w.sent → Asking.Asks side.client t
      → GoodTakes w k side c t → Refines m G other reset evict mark w k side c t
  own_by w k side c t g n p =
      took_by w k side c no_segment t g p record {
        more = n.more;
        further = n.further;
        acked = inl n.acked;
        iss = n.iss;
        early = n.early;
        ends = n.ends;
      } (λ cl l r. (let z = r.low in omega (arith, z, n.acked)))

  nothing_opened : (o : Option ℕ) → o ≡ None → (k : ℕ) (client : AbstractClient) (c : Connection) (sent : List Sent) → used client ≡ 0
      → RequestedBy k client c sent o
  nothing_opened None e k client c sent z = z
  nothing_opened (Some o) e k client c sent z = absurd (cc)

  opening_requested : (addr : Addr) (numbers : List ℕ) (plan : List Planned) → IsPlan plan → Framed m G other reset evict mark (initial_world addr numbers plan)
  opening_requested addr numbers plan is =
      let b = PrefixAndWhole.opening_framed m (everywhere m pages lawful) addr numbers plan is in
      record {
        apart = b.apart;
        single = b.single;
        each = λ k side x. (let p = get_map fresh_side plan k side x in record {
          good = b.each k side x;
          asked_by = λ cl. nothing_opened side.opened (ap (λ (o : Side). o.opened) (sym p.is)) k side.client
              (serving (client_sockets side) (replicate 10 closed)) [] (ap (λ (o : Side). used o.client) (sym p.is));
          acks = λ cl l j e y. absurd (cc);
        });
      }

  pub all_requested : (w : World) → IsReached m pages w → Framed m G other reset evict mark w
  all_requested w r = reached m pages lawful (λ v. Framed m G other reset evict mark v)
      (λ served v act harm g fits. does_framed m G other reset evict mark (steady_of m pages lawful) served segment tick birth record {
        took = took;
        opens = λ w k side c fit g. own_by w k side c (client_opens side.client) g (opens_asks side.client)
            (PrefixAndWhole.own_open m (everywhere m pages lawful) w k side c fit g.good);
        again = λ w k side c fit g. own_by w k side c (client_again side.client) g (again_asks side.client)
            (PrefixAndWhole.own_again m (everywhere m pages lawful) w k side c fit g.good);
        closes = λ w k side c fit g. own_by w k side c (client_closes side.client) g (closes_asks side.client)
            (PrefixAndWhole.own_close m (everywhere m pages lawful) w k side c fit g.good);
        aborts = λ w k side c fit g. own_by w k side c (client_aborts side.client) g (aborts_asks side.client)
            (PrefixAndWhole.own_abort m (everywhere m pages lawful) w k side c fit g.good);
        windows = λ x w k side c fit g. own_by w k side c (advertises_window x side.client) g (window_asks x side.client)
            (PrefixAndWhole.own_window m (everywhere m pages lawful) x w k side c fit g.good);
      }
      v act harm g fits)
      opening_requested w r
