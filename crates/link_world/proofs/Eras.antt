-- The epochs of a client: how many there are, and that each has one connection.
use Rattle.link_world.proofs.Prelude.{All, ◌≡◌, ℕ, ◌+◌, ◌≤◌, Bool, true, false, List, [], ◌∷◌, ◌++◌, length, replicate, refl, sym, ap, ◌∙◌}
use Rattle.link_world.proofs.Prelude.{subst, arith, Some, slice_get, Addr, has_syn, has_fin, has_rst, AppSpec, Pages, IsPaged, IsNow, IsU32}
use Rattle.link_world.proofs.Prelude.{Now, Sockets, Connection, closed, is_live, is_plain_syn, syn_ack, Outcome, asked, accepted}
use Rattle.link_world.proofs.Prelude.{on_segment, on_tick, ClientStep, one_if, World, Side, Sent, PastConnection, client_sockets, is_clean}
use Rattle.link_world.proofs.Prelude.{marked, past_connection_of, Planned, IsPlan, fresh_side, initial_world, serving, IsReached}
use Rattle.link_world.proofs.Prelude.{server_side, IsLater, OneConnection, EpochsAreFew, steady_of, FitConn, asked_moves, segment_moves}
use Rattle.link_world.proofs.Prelude.{tick_moves, none_serves, get_map, serving_free}
use Rattle.link_world.proofs.CleanClientInvariant.{seg, from, to}
use Rattle.link_world.proofs.Rounds.{one_longer}
use Rattle.link_world.proofs.Runs.{reached, reached_on}
use Rattle.link_world.proofs.Views.{length_push}
use Rattle.link_world.proofs.OneClientFact.{Framed, Steps, Refines, any_step, older, model, entry, does_framed}
use Rattle.link_world.proofs.TextNumbers.{Num, accepted_num, closed_num, segment_num, tick_num}
use Rattle.link_world.proofs.PrefixAndWhole.{everywhere}
use Rattle.link_world.proofs.PrefixAndWhole

small : (b : Bool) → one_if b ≤ 1
small true = omega arith
small false = omega arith

-- a live connection continues, or not
still_few : (n l : ℕ) (a b : Bool) → a ≡ true → n + one_if a ≤ l → n + one_if b ≤ l
still_few n l a b e h = omega (arith, h, ap one_if e, small b)

gone_few : (history : List PastConnection) (x : PastConnection) (l : ℕ) (a : Bool) → a ≡ true → length history + one_if a ≤ l
    → length (history ++ x ∷ []) + 0 ≤ l
gone_few history x l a e h = omega (arith, h, ap one_if e, length_push history x)

module _ (m : AppSpec) where
  -- how many epochs there are
  abbrev Few : ℕ → Side → Connection → List Sent → Type 0
  Few k side c sent = length side.history + one_if (is_live c.state) ≤ length sent

  push_few : (n : ℕ) (sent : List Sent) (e : Sent) → n ≤ length sent → n ≤ length (sent ++ e ∷ [])
  push_few n sent e h = omega (arith, h, one_longer sent e)

  few_other : (k : ℕ) (side : Side) (c : Connection) (sent : List Sent) (e : Sent) → Few k side c sent → (e.who ≡ to k → ⊥)
      → (e.who ≡ from k → ⊥) → Few k side c (sent ++ e ∷ [])
  few_other k side c sent e g t f = push_few _ sent e g

  few_reset : (k : ℕ) (side : Side) (c : Connection) (sent : List Sent) (e : Sent) → Few k side c sent → e.epoch ≡ length side.history
      → has_syn (seg e).flags ≡ false → has_fin (seg e).flags ≡ false → (seg e).text ≡ [] → has_rst (seg e).flags ≡ true → e.again ≡ false
      → e.who ≡ to k → Few k side c (sent ++ e ∷ [])
  few_reset k side c sent e g q sy fi te rs ag w = push_few _ sent e g

  few_evict : (k : ℕ) (side : Side) (c : Connection) (sent : List Sent) → is_live c.state ≡ true → Few k side c sent → Few k (older side c) closed sent
  few_evict k side c sent l g = gone_few side.history (past_connection_of c) (length sent) (is_live c.state) l g

  few_mark : (k : ℕ) (side : Side) (c : Connection) (sent : List Sent) (n : ℕ) (e : Sent) → Few k side c sent → Few k (marked side n e) c sent
  few_mark k side c sent n e g = g

  few_steps : (w : World) (old : Connection) (o : Outcome) (k : ℕ) (side : Side) → is_live old.state ≡ true → Few k side old w.sent
      → Steps m Few few_other few_reset few_evict few_mark w o k side
  few_steps w old o k side lv g =
      let live : Few k side o.connection w.sent = still_few (length side.history) (length w.sent) (is_live old.state) (is_live o.connection.state) lv g in
      let last : Few k (older side o.connection) closed w.sent = gone_few side.history (past_connection_of o.connection) (length w.sent)
      (is_live old.state) lv g in
      record {
        quiet = λ n l. live;
        quiet_last = λ n l. last;
        says = λ s e l tick id. push_few _ w.sent _ live;
        sends_last = λ s e l tick id. push_few _ w.sent _ last;
      }

  few_segment : (w : World) (old : Connection) (numbers : List ℕ) (now : Connection → Now) (k j : ℕ) (side : Side) (e : Sent)
      → is_live old.state ≡ true → FitConn old → All IsU32 numbers → ((c : Connection) → FitConn c → IsNow (now c)) →
      slice_get w.sent j ≡ Some e → e.who ≡ from k → (is_clean side ≡ true → e.epoch ≡ length side.history) → Few k side old w.sent
      → Steps m Few few_other few_reset few_evict few_mark w (asked m now (on_segment m old numbers (seg e))) k side
  few_segment w old numbers now k j side e lv f n is sent who fresh g = few_steps w old (asked m now (on_segment m old numbers (seg e))) k side lv g

  few_tick : (w : World) (old : Connection) (numbers : List ℕ) (now : Connection → Now) (k : ℕ) (side : Side) → is_live old.state ≡ true
      → FitConn old → All IsU32 numbers → ((c : Connection) → FitConn c → IsNow (now c)) →
      Few k side old w.sent → Steps m Few few_other few_reset few_evict few_mark w (asked m now (on_tick m old numbers)) k side
  few_tick w old numbers now k side lv f n is g = few_steps w old (asked m now (on_tick m old numbers)) k side lv g

  -- a connection is born with a datagram
  few_birth : (w : World) (iss : ℕ) (sockets : Sockets) (k j : ℕ) (side : Side) (e : Sent) → client_sockets side ≡ sockets
      → slice_get w.sent j ≡ Some e → e.who ≡ from k → (is_clean side ≡ true → e.epoch ≡ length side.history) → is_plain_syn (seg e) ≡ true
      → FitConn (accepted iss sockets (seg e)) → Few k side closed w.sent →
      (tick id : ℕ) → Few k side (accepted iss sockets (seg e))
      (w.sent ++ entry (to k) side tick id (model false (syn_ack (accepted iss sockets (seg e)))) ∷ [])
  few_birth w iss sockets k j side e own sent who fresh plain fit g tick id =
      let new : Sent = entry (to k) side tick id (model false (syn_ack (accepted iss sockets (seg e)))) in
      omega (arith, g, one_longer w.sent new)

  few_takes : (w : World) (k : ℕ) (base : Side) (c : Connection) (t : ClientStep) → Few k base c w.sent → Refines m Few few_other few_reset
      few_evict few_mark w k base c t
  few_takes w k base c t g = record { quiet = λ n. g; says = λ s e tick. push_few _ w.sent _ g }

  few_opening : (pages : Pages) → IsPaged m pages → (addr : Addr) (numbers : List ℕ) (plan : List Planned) → IsPlan plan
      → Framed m Few few_other few_reset few_evict few_mark (initial_world addr numbers plan)
  few_opening pages lawful addr numbers plan is =
      let b = PrefixAndWhole.opening_framed m (everywhere m pages lawful) addr numbers plan is in
      record {
        apart = b.apart;
        single = b.single;
        each = λ k side x. (let p = get_map fresh_side plan k side x in
            let e : serving (client_sockets side) (replicate 10 closed) ≡ closed = serving_free (replicate 10 closed) (client_sockets side)
            (none_serves 10 (client_sockets side)) in
            let none : length side.history ≡ 0 = ap (λ (o : Side). length o.history) (sym p.is) in
            let dead : one_if (is_live (serving (client_sockets side) (replicate 10 closed)).state) ≡ 0 = ap (λ (z : Connection). one_if (is_live z.state)) e in
            omega (arith, none, dead));
      }

  all_few : (pages : Pages) → IsPaged m pages → (w : World) → IsReached m pages w → Framed m Few few_other few_reset few_evict few_mark w
  all_few pages lawful w r = reached m pages lawful (λ v. Framed m Few few_other few_reset few_evict few_mark v)
      (λ served v act harm g fits. does_framed m Few few_other few_reset few_evict few_mark (steady_of m pages lawful) served few_segment few_tick few_birth
      (any_step m Few few_other few_reset few_evict few_mark few_takes)
      v act harm g fits)
      (few_opening pages lawful) w r

  -- in the epoch o of the client in place n its connection lives, and has this first number
  record Lives (o f : ℕ) (history : List PastConnection) (c : Connection) : Type 0 where
    low : o ≤ length history
    here : length history ≡ o → (is_live c.state ≡ true) × (c.iss ≡ f)

  module _ (n o f : ℕ) where
    abbrev Same : ℕ → Side → Connection → List Sent → Type 0
    Same k side c sent = k ≡ n → Lives o f side.history c

    same_other : (k : ℕ) (side : Side) (c : Connection) (sent : List Sent) (e : Sent) → Same k side c sent → (e.who ≡ to k → ⊥)
        → (e.who ≡ from k → ⊥) → Same k side c (sent ++ e ∷ [])
    same_other k side c sent e g t x = g

    same_reset : (k : ℕ) (side : Side) (c : Connection) (sent : List Sent) (e : Sent) → Same k side c sent → e.epoch ≡ length side.history
        → has_syn (seg e).flags ≡ false → has_fin (seg e).flags ≡ false → (seg e).text ≡ [] → has_rst (seg e).flags ≡ true → e.again ≡ false
        → e.who ≡ to k → Same k side c (sent ++ e ∷ [])
    same_reset k side c sent e g q sy fi te rs ag w = g

    gone_same : (history : List PastConnection) (x : PastConnection) (c d : Connection) → Lives o f history c → Lives o f (history ++ x ∷ []) d
    gone_same history x c d g = let low = g.low in record {
      low = omega (arith, low, length_push history x);
      here = λ e. absurd (omega (arith, e, low, length_push history x));
    }

    same_evict : (k : ℕ) (side : Side) (c : Connection) (sent : List Sent) → is_live c.state ≡ true → Same k side c sent → Same k (older side c) closed sent
    same_evict k side c sent l g = λ q. gone_same side.history (past_connection_of c) c closed (g q)

    same_mark : (k : ℕ) (side : Side) (c : Connection) (sent : List Sent) (i : ℕ) (e : Sent) → Same k side c sent → Same k (marked side i e) c sent
    same_mark k side c sent i e g = g

    same_steps : (w : World) (old : Connection) (out : Outcome) (k : ℕ) (side : Side) → out.connection.iss ≡ old.iss
        → Same k side old w.sent → Steps m Same same_other same_reset same_evict same_mark w out k side
    same_steps w old out k side iss g =
        let live : is_live out.connection.state ≡ true → Same k side out.connection w.sent = λ l q. (let h = g q in
        record { low = h.low; here = λ e. (l, iss ∙ (h.here e).1) }) in
        let last : Same k (older side out.connection) closed w.sent = λ q. gone_same side.history (past_connection_of out.connection) old closed (g q) in
        record { quiet = λ x l. live l; quiet_last = λ x l. last; says = λ s e l tick id. live l; sends_last = λ s e l tick id. last }

    same_segment : (w : World) (old : Connection) (numbers : List ℕ) (now : Connection → Now) (k j : ℕ) (side : Side) (e : Sent)
        → is_live old.state ≡ true → FitConn old → All IsU32 numbers → ((c : Connection) → FitConn c → IsNow (now c)) →
        slice_get w.sent j ≡ Some e → e.who ≡ from k → (is_clean side ≡ true → e.epoch ≡ length side.history) → Same k side old w.sent
        → Steps m Same same_other same_reset same_evict same_mark w (asked m now (on_segment m old numbers (seg e))) k side
    same_segment w old numbers now k j side e lv fit ns is sent who fresh g =
        same_steps w old (asked m now (on_segment m old numbers (seg e))) k side (asked_moves m _ old now (on_segment m old numbers (seg e))
        (segment_moves m old numbers (seg e))).iss g

    same_tick : (w : World) (old : Connection) (numbers : List ℕ) (now : Connection → Now) (k : ℕ) (side : Side) → is_live old.state ≡ true
        → FitConn old → All IsU32 numbers → ((c : Connection) → FitConn c → IsNow (now c)) →
        Same k side old w.sent → Steps m Same same_other same_reset same_evict same_mark w (asked m now (on_tick m old numbers)) k side
    same_tick w old numbers now k side lv fit ns is g =
        same_steps w old (asked m now (on_tick m old numbers)) k side (asked_moves m _ old now (on_tick m old numbers) (tick_moves m old numbers)).iss g

    -- none is born in an epoch in which one lives
    same_birth : (w : World) (iss : ℕ) (sockets : Sockets) (k j : ℕ) (side : Side) (e : Sent) → client_sockets side ≡ sockets
        → slice_get w.sent j ≡ Some e → e.who ≡ from k → (is_clean side ≡ true → e.epoch ≡ length side.history) → is_plain_syn (seg e)
        ≡ true → FitConn (accepted iss sockets (seg e)) → Same k side closed w.sent →
        (tick id : ℕ) → Same k side (accepted iss sockets (seg e))
        (w.sent ++ entry (to k) side tick id (model false (syn_ack (accepted iss sockets (seg e)))) ∷ [])
    same_birth w iss sockets k j side e own sent who fresh plain fit g tick id = λ q. (let h = g q in
        record { low = h.low; here = λ x. absurd (let z : false ≡ true = (h.here x).0 in cc) })

    same_takes : (w : World) (k : ℕ) (base : Side) (c : Connection) (t : ClientStep) → Same k base c w.sent
        → Refines m Same same_other same_reset same_evict same_mark w k base c t
    same_takes w k base c t g = record { quiet = λ x. g; says = λ s e tick. g }

    goes_on_same : (pages : Pages) → IsPaged m pages → (v w : World) → IsLater m pages v w → Framed m Same same_other same_reset same_evict
        same_mark v → Framed m Same same_other same_reset same_evict same_mark w
    goes_on_same pages lawful v w l = reached_on m pages lawful (λ u. Framed m Same same_other same_reset same_evict same_mark u)
        (λ served u act harm g fits. does_framed m Same same_other same_reset same_evict same_mark (steady_of m pages lawful) served
        same_segment same_tick same_birth
        (any_step m Same same_other same_reset same_evict same_mark same_takes)
        u act harm g fits)
        v w l

  -- the numbers of the connection of each client
  abbrev Numbered : ℕ → Side → Connection → List Sent → Type 0
  Numbered k side c sent = Num c

  num_other : (k : ℕ) (side : Side) (c : Connection) (sent : List Sent) (e : Sent) → Numbered k side c sent → (e.who ≡ to k → ⊥)
      → (e.who ≡ from k → ⊥) → Numbered k side c (sent ++ e ∷ [])
  num_other k side c sent e g t x = g

  num_reset : (k : ℕ) (side : Side) (c : Connection) (sent : List Sent) (e : Sent) → Numbered k side c sent → e.epoch ≡ length side.history
      → has_syn (seg e).flags ≡ false → has_fin (seg e).flags ≡ false → (seg e).text ≡ [] → has_rst (seg e).flags ≡ true → e.again ≡ false
      → e.who ≡ to k → Numbered k side c (sent ++ e ∷ [])
  num_reset k side c sent e g q sy fi te rs ag w = g

  num_evict : (k : ℕ) (side : Side) (c : Connection) (sent : List Sent) → is_live c.state ≡ true → Numbered k side c sent
      → Numbered k (older side c) closed sent
  num_evict k side c sent l g = closed_num

  num_mark : (k : ℕ) (side : Side) (c : Connection) (sent : List Sent) (i : ℕ) (e : Sent) → Numbered k side c sent → Numbered k (marked side i e) c sent
  num_mark k side c sent i e g = g

  num_steps : (w : World) (out : Outcome) (k : ℕ) (side : Side) → Num out.connection → Steps m Numbered num_other num_reset num_evict num_mark w out k side
  num_steps w out k side g = record { quiet = λ x l. g; quiet_last = λ x l. closed_num; says = λ s e l tick id. g; sends_last = λ s e l tick id. closed_num }

  num_takes : (w : World) (k : ℕ) (base : Side) (c : Connection) (t : ClientStep) → Num c → Refines m Numbered num_other num_reset num_evict
      num_mark w k base c t
  num_takes w k base c t g = record { quiet = λ x. g; says = λ s e tick. g }

  pub all_numbered : (pages : Pages) → IsPaged m pages → (w : World) → IsReached m pages w → (k : ℕ) (side : Side)
      → slice_get w.sides k ≡ Some side → Num (server_side w side)
  all_numbered pages lawful w r = (reached m pages lawful (λ v. Framed m Numbered num_other num_reset num_evict num_mark v)
      (λ served v act harm g fits. does_framed m Numbered num_other num_reset num_evict num_mark (steady_of m pages lawful) served
      (λ w old numbers now k j side e lv f n is sent who fresh g. num_steps w (asked m now (on_segment m old numbers (seg e))) k side
      (segment_num m pages lawful now old numbers (seg e) g))
      (λ w old numbers now k side lv f n is g. num_steps w (asked m now (on_tick m old numbers)) k side (tick_num m pages lawful now old numbers g))
      (λ w iss sockets k j side e own sent who fresh plain fit g tick id. accepted_num iss sockets (seg e))
      (any_step m Numbered num_other num_reset num_evict num_mark num_takes)
      v act harm g fits)
      (λ addr numbers plan is. let b = PrefixAndWhole.opening_framed m (everywhere m pages lawful) addr numbers plan is in
      record {
        apart = b.apart;
        single = b.single;
        each = λ k side x. subst Num (sym (serving_free (replicate 10 closed) (client_sockets side) (none_serves 10 (client_sockets side)))) closed_num;
      })
      w r).each

only_side : (sides : List Side) (k : ℕ) (a b : Side) → slice_get sides k ≡ Some a → slice_get sides k ≡ Some b → a ≡ b
only_side sides k a b x y = let z : Some a ≡ Some b = sym x ∙ y in cc

pub one_connection : OneConnection
one_connection m pages lawful v w l k a b x y same live =
    let start = all_few m pages lawful v l.reached in
    let f : ℕ = (server_side v a).iss in
    let e : Framed m (Same m k (length a.history) f) (same_other m k (length a.history) f) (same_reset m k (length a.history) f)
    (same_evict m k (length a.history) f) (same_mark m k (length a.history) f) v = record {
      apart = start.apart;
      single = start.single;
      each = λ j side z q. (let t : slice_get v.sides k ≡ Some side = ap (slice_get v.sides) (sym q) ∙ z in
          let i : a ≡ side = only_side v.sides k a side x t in
          subst (λ (u : Side). Lives m (length a.history) f u.history (server_side v u)) i record { low = omega arith; here = λ h. (live, refl) });
    } in
    ((goes_on_same m k (length a.history) f pages lawful v w l e).each k b y refl).here (sym same)

pub epochs_are_few : EpochsAreFew
epochs_are_few m pages lawful w r k side x =
    let h : length side.history + one_if (is_live (server_side w side).state) ≤ length w.sent = (all_few m pages lawful w r).each k side x in
    record { history = omega (arith, h); live = λ l. omega (arith, h, ap one_if l) }
