-- The mark, the bytes of each datagram, and what a client sends only after it opened.
-- [add: schedule-line] What its acts leave.
use Rattle.link_world.proofs.Prelude.{◌≡◌, ℕ, zero, suc, ◌+◌, ◌<◌, ◌≤◌, Bool, true, false, inl, inr, List, [], ◌∷◌, ◌++◌, length, map, refl}
use Rattle.link_world.proofs.Prelude.{sym, ap, ◌∙◌, subst, arith, Option, Some, None, Result, Ok, Err, slice_get, is_some, length-append}
use Rattle.link_world.proofs.Prelude.{length-take, length-drop, cases_lt, option_map_or, Addr, AppSpec, Pages, IsPaged, IsAddr, echo_reply}
use Rattle.link_world.proofs.Prelude.{PlainSegment, has_syn, has_fin, has_rst, Connection, closed, is_live, Outcome, asked, on_segment}
use Rattle.link_world.proofs.Prelude.{on_tick, ClientStep, World, Side, Sent, marked, OfSegment, client_bytes, node_bytes, bytes_by, does}
use Rattle.link_world.proofs.Prelude.{runs, BadLine, acts_of, mark_after, plays_from, Round, Twice, Reverse, Half, Lose, Act, StepFault}
use Rattle.link_world.proofs.Prelude.{Who, FromClient, FromNode, Pinger, Planned, fresh_side, initial_world, planned_of, started, IsSentBy}
use Rattle.link_world.proofs.Prelude.{IsLater, AcknowledgedLater, MarkIsLow, NoneIsEmpty, SidesAsPlanned, steady_of, whole_length}
use Rattle.link_schedule.specs.declared.event.Event.{Event}
use Rattle.link_world.proofs.Doing.{goes_on_with, with_mark}
use Rattle.link_world.proofs.CleanClientInvariant.{seg, from, to}
use Rattle.link_world.proofs.OneClientFact.{Framed, Steps, Refines, any_step, older, does_framed}
use Rattle.link_world.proofs.Growing.{Grows, does_grows, grows_not, grows_on}
use Rattle.link_world.proofs.Parts.{clean_parts}
use Rattle.link_world.proofs.PrefixAndWhole.{all_good}
use Rattle.link_world.proofs.Reading.{to_node, to_client, to_node_place, to_client_place, ping_long}
use Rattle.link_world.proofs.Runs.{reached_on, reached_sound, run_keeps}
use Rattle.link_world.proofs.RetransmissionInvariant.{get_older}
use Rattle.link_world.proofs.Senders.{IsAsked, has_senders, sent_to_clients}
use Rattle.link_world.proofs.Sound.{IsSoundClient}
use Rattle.link_world.proofs.SoundWorlds.{SoundWorld}
use Rattle.link_world.proofs.SoundWorlds.SoundSent.{of_segment, of_ping, of_echo}
use Rattle.link_world.proofs.ReadBack.{ping_back}

-- ---- the mark

module _ (m : AppSpec) (served : ℕ → Bool) where
  runs_grow : (all : List Act) (w v : World) → runs m served all w ≡ Ok v → Grows w v
  runs_grow all w v e =
      run_keeps m served (λ act. Unit {0}) (λ u. Grows w u) (λ u act f n p. grows_on w u (does m served u act) p
      (does_grows m served u act)) all w v (λ k d l. tt) (grows_not w) e

  low_after : (w : World) (event : Event) → w.mark ≤ length w.sent → mark_after w event ≤ length w.sent
  low_after w Round h = omega arith
  low_after w Twice h = omega arith
  low_after w Reverse h = omega arith
  low_after w Half h = omega arith
  low_after w Lose h = omega arith
  low_after w _ h = h

  -- a line only adds, and leaves the mark low
  record Onward (w v : World) : Type 0 where
    grows : Grows w v
    low : w.mark ≤ length w.sent → v.mark ≤ length v.sent

  line_onward : (place : ℕ) (w v : World) (event : Event) (next : World → Result World BadLine) (r : Result World StepFault)
      → runs m served (acts_of w event) w ≡ r → ((u : World) → next u ≡ Ok v → Onward u v)
      → goes_on_with place next (with_mark (mark_after w event) r) ≡ Ok v → Onward w v
  line_onward place w v event next (Ok u) q rest e =
      let grown = runs_grow (acts_of w event) w u q in
      let x : World = record u { mark = mark_after w event } in
      let more = rest x e in
      record {
        grows = grows_on w x v record { sent = grown.sent; spoken = grown.spoken; planned = grown.planned } more.grows;
        low = λ h. (let a = low_after w event h in let b = grown.sent in more.low (omega (arith, a, b)));
      }
  line_onward place w v event next (Err f) q rest e = absurd (cc)

  lines_onward : (lines : List Event) (place : ℕ) (w v : World) → plays_from m served place lines w ≡ Ok v → Onward w v
  lines_onward [] place w v e = subst (Onward w) (let z : w ≡ v = cc in z) record { grows = grows_not w; low = λ h. h }
  lines_onward (event ∷ more) place w v e =
      line_onward place w v event (plays_from m served (place + 1) more) (runs m served (acts_of w event) w) refl (λ u q. lines_onward more (place + 1) u v q) e

pub mark_is_low : MarkIsLow
mark_is_low m pages w r = (lines_onward m r.served r.lines 0 (started r.start) w r.accepted).low (omega arith)

-- ---- the plan

map_fresh : (plan : List Planned) → map planned_of (map fresh_side plan) ≡ plan
map_fresh [] = refl
map_fresh (p ∷ plan) = ap (λ ps. p ∷ ps) (map_fresh plan)

pub sides_as_planned : SidesAsPlanned
sides_as_planned m served addr numbers plan w = record {
  by_acts = λ schedule e. (runs_grow m served schedule (initial_world addr numbers plan) w e).planned ∙ map_fresh plan;
  by_lines = λ lines e. (lines_onward m served lines 0 (initial_world addr numbers plan) w e).grows.planned ∙ map_fresh plan;
}

-- ---- the bytes

abbrev HasByte : List ℕ → Type 0
HasByte bytes = 1 ≤ length bytes

client_has : (id : ℕ) (s : PlainSegment) (at : Option Side) → id < 65536 → ((x : Side) → at ≡ Some x → IsSoundClient x.client) → (x : Side)
    → at ≡ Some x → HasByte (option_map_or (client_bytes id s) at [])
client_has id s None l h x e = absurd (cc)
client_has id s (Some side) l h x e = let n = whole_length (to_node side id s) (to_node_place side id s l (h side refl)) in omega (arith, n)

node_has : (addr : Addr) (id : ℕ) (s : PlainSegment) (at : Option Side) → IsAddr addr → id < 65536
    → ((x : Side) → at ≡ Some x → IsSoundClient x.client) → (x : Side) → at ≡ Some x → HasByte (option_map_or (node_bytes addr id s) at [])
node_has addr id s None a l h x e = absurd (cc)
node_has addr id s (Some side) a l h x e = let n = whole_length (to_client addr side id s)
    (to_client_place addr side id s a l (h side refl)) in omega (arith, n)

segment_has : (w : World) (who : Who) (id : ℕ) (s : PlainSegment) → id < 65536 → SoundWorld w → IsSentBy w.sides who (OfSegment id s)
    → HasByte (bytes_by w who (OfSegment id s))
segment_has w (FromClient zero) id s l h b = absurd (let e = b.1 in cc)
segment_has w (FromClient (suc n)) id s l h b = client_has id s (slice_get w.sides n) l (λ x e. h.sides n x e) b.0 b.1
segment_has w (FromNode zero) id s l h b = absurd (let e = b.1 in cc)
segment_has w (FromNode (suc n)) id s l h b = node_has w.node.addr id s (slice_get w.sides n) h.addr l (λ x e. h.sides n x e) b.0 b.1
segment_has w Pinger id s l h b = absurd b

echo_has : (request : List ℕ) → length request ≡ 28 → HasByte (echo_reply request)
echo_has request h = simp (length-append, length-take, length-drop) (omega (arith, h))

pub none_is_empty : NoneIsEmpty
none_is_empty m pages lawful page w r k e x =
    let h : SoundWorld w = reached_sound m pages lawful page w r in
    let by : IsSentBy w.sides e.who e.content = sent_to_clients m pages lawful w r k e x in
    elim (h.sent k e x) [
      | of_segment id t q l g ↦ subst (λ c. HasByte (bytes_by w e.who c)) (sym q) (segment_has w e.who id t l h (subst (λ c. IsSentBy w.sides e.who c) q by))
      | of_ping source p q b ↦ subst (λ y. HasByte (bytes_by w y e.content)) (sym p) (subst (λ c. HasByte (bytes_by w Pinger c)) (sym q)
          (let z = (ping_back source w.node.addr b h.addr).long in omega (arith, z)))
      | of_echo request p q ↦ (let a : IsAsked w.sent request = subst (λ c. Rattle.link_world.proofs.Senders.Asked w.sent c) q
          ((has_senders m pages lawful w r).sent k e x).1 in
          let long : length request ≡ 28 = ping_long w.node.addr a.asker.who a.asker.content request h.addr a.is (h.sent a.index a.asker a.get) in
          subst (λ y. HasByte (bytes_by w y e.content)) (sym p) (subst (λ c. HasByte (bytes_by w (FromNode 0) c)) (sym q) (echo_has request long)))
    ]

-- ---- what was sent stays

module _ (m : AppSpec) (n : ℕ) (it : Sent) where
  abbrev There : ℕ → Side → Connection → List Sent → Type 0
  There k side c sent = slice_get sent n ≡ Some it

  there_other : (k : ℕ) (side : Side) (c : Connection) (sent : List Sent) (e : Sent) → There k side c sent → (e.who ≡ to k → ⊥)
      → (e.who ≡ from k → ⊥) → There k side c (sent ++ e ∷ [])
  there_other k side c sent e g t f = get_older sent e it n g

  there_reset : (k : ℕ) (side : Side) (c : Connection) (sent : List Sent) (e : Sent) → There k side c sent → e.epoch ≡ length side.history
      → has_syn (seg e).flags ≡ false → has_fin (seg e).flags ≡ false → (seg e).text ≡ [] → has_rst (seg e).flags ≡ true → e.again ≡ false
      → e.who ≡ to k → There k side c (sent ++ e ∷ [])
  there_reset k side c sent e g q sy fi te rs ag w = get_older sent e it n g

  there_evict : (k : ℕ) (side : Side) (c : Connection) (sent : List Sent) → is_live c.state ≡ true → There k side c sent → There k (older side c) closed sent
  there_evict k side c sent l g = g

  there_mark : (k : ℕ) (side : Side) (c : Connection) (sent : List Sent) (i : ℕ) (e : Sent) → There k side c sent → There k (marked side i e) c sent
  there_mark k side c sent i e g = g

  there_steps : (w : World) (o : Outcome) (k : ℕ) (side : Side) → slice_get w.sent n ≡ Some it → Steps m There there_other there_reset
      there_evict there_mark w o k side
  there_steps w o k side g = record {
    quiet = λ x l. g;
    quiet_last = λ x l. g;
    says = λ s e l tick id. get_older w.sent _ it n g;
    sends_last = λ s e l tick id. get_older w.sent _ it n g;
  }

  there_takes : (w : World) (k : ℕ) (base : Side) (c : Connection) (t : ClientStep) → slice_get w.sent n ≡ Some it
      → Refines m There there_other there_reset there_evict there_mark w k base c t
  there_takes w k base c t g = record { quiet = λ x. g; says = λ s e tick. get_older w.sent _ it n g }

  stays_there : (pages : Pages) → IsPaged m pages → (v w : World) → IsLater m pages v w → Framed m There there_other there_reset there_evict
      there_mark v → Framed m There there_other there_reset there_evict there_mark w
  stays_there pages lawful v w l = reached_on m pages lawful (λ u. Framed m There there_other there_reset there_evict there_mark u)
      (λ served u act harm g fits. does_framed m There there_other there_reset there_evict there_mark (steady_of m pages lawful) served
      (λ w old numbers now k j side e lv f n is sent who fresh g. there_steps w (asked m now (on_segment m old numbers (seg e))) k side g)
      (λ w old numbers now k side lv f n is g. there_steps w (asked m now (on_tick m old numbers)) k side g)
      (λ w iss sockets k j side e own sent who fresh plain fit g tick id. get_older w.sent _ it n g)
      (any_step m There there_other there_reset there_evict there_mark there_takes)
      u act harm g fits)
      v w l

some_at : {X : Type 0} (xs : List X) (i : ℕ) → i < length xs → (x : X) × (slice_get xs i ≡ Some x)
some_at [] i l = absurd (omega arith)
some_at (x ∷ xs) zero l = (x, refl)
some_at (x ∷ xs) (suc i) l = some_at xs i (omega arith)

pub acknowledged_later : AcknowledgedLater
acknowledged_later m pages lawful v w l k a b x at clean unopened i e id s y who is nr ack =
    elim (cases_lt i (length v.sent)) [
      | inr h ↦ h
      | inl h ↦ (let f = some_at v.sent i h in
          let start = all_good m pages lawful v l.reached in
          let now : slice_get w.sent i ≡ Some f.0 =
          (stays_there m i f.0 pages lawful v w l record { apart = start.apart; single = start.single; each = λ j side z. f.1 }).each k b at in
          let same : f.0 ≡ e = (let z : Some f.0 ≡ Some e = sym now ∙ y in cc) in
          let opened : is_some a.opened ≡ true = (clean_parts m pages lawful v l.reached k a x clean).acknowledges i f.0 id s f.1
          (ap (λ (z : Sent). z.who) same ∙ who) (ap (λ (z : Sent). z.content) same ∙ is) nr ack in
          absurd (let z : false ≡ true = ap (λ (o : Option ℕ). is_some o) (sym unopened) ∙ opened in cc))
    ]
