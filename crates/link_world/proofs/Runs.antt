-- What every act preserves holds in every world that is reached.
use Rattle.link_world.proofs.Prelude.{All, ◌≡◌, ℕ, suc, ◌⊎◌, inl, inr, Bool, List, [], ◌∷◌, refl, subst, arith, Option, Some, None, Result}
use Rattle.link_world.proofs.Prelude.{Ok, Err, option_map_or, Addr, AppSpec, Pages, IsPaged, IsSnapshot, IsU32, IsAddr, Connection, World}
use Rattle.link_world.proofs.Prelude.{Side, ◌>>=◌, does, fault_of, acts, runs, Act, StepFault, Planned, IsPlanned, IsPlan, fresh_side}
use Rattle.link_world.proofs.Prelude.{initial_world, started, IsSteady, IsReachedPlainly, IsAct, IsPlainAct, IsReached, HasBytes, IsLater}
use Rattle.link_world.proofs.Prelude.{steady_of, get_map, all_closed, FitConn, all_nil, closed_fits, Lens, closed_lens, DeliveredBytes}
use Rattle.link_world.proofs.FitWorlds.{FitSide, FitWorld}
use Rattle.link_world.proofs.FitActs.{does_fit}
use Rattle.link_world.proofs.Harmless.{Harmless, plain_harmless}
use Rattle.link_world.proofs.Room.{HasRoom, keeps_room}
use Rattle.link_world.proofs.Sound.{IsSoundClient}
use Rattle.link_world.proofs.SentBytes.{SendsBytesWhere, pages_send_bytes}
use Rattle.link_world.proofs.SoundWorlds.{KnownWorld, SoundWorld, does_sound}
use Rattle.link_world.proofs.Damages.{act_harmless}

-- the opening world
opening_fits : (addr : Addr) (numbers : List ℕ) (plan : List Planned) → All IsU32 numbers → IsPlan plan → FitWorld (initial_world addr numbers plan)
opening_fits addr numbers plan n is = record {
  node = record { size = omega arith; conns = λ i c x. subst (λ z. FitConn z) (all_closed 10 i c x) closed_fits; numbers = n };
  sides = λ k side x. (let p = get_map fresh_side plan k side x in let g : IsPlanned p.from = is.each k p.from p.get in
      subst (λ (o : Side). FitSide o) p.is record { eras = λ i. all_nil IsSnapshot; addr = g.addr; port = g.port });
}

opening_sound : (addr : Addr) (numbers : List ℕ) (plan : List Planned) → IsAddr addr → IsPlan plan → SoundWorld (initial_world addr numbers plan)
opening_sound addr numbers plan a is = record {
  addr = a;
  conns = λ i c x. subst (λ z. Lens z) (all_closed 10 i c x) closed_lens;
  sides = λ k side x. (let p = get_map fresh_side plan k side x in let g : IsPlanned p.from = is.each k p.from p.get in
      subst (λ (o : Side). IsSoundClient o.client) p.is record {
        addr = g.addr;
        port = g.port;
        server = g.server;
        server_port = g.server_port;
        iss = g.iss;
        offered = g.offered;
        seg = g.seg.1;
        request = g.all_bytes;
        expected = omega arith;
        window = omega arith;
        out = omega arith;
      });
  sent = λ k e x. absurd (cc);
}

-- the acts in turn, for any fact that each accepted one of them keeps
done_world : (v w : World) (f : Option StepFault) → option_map_or Err f (Ok v) ≡ Ok w → v ≡ w
done_world v w None e = cc
done_world v w (Some f) e = absurd (cc)

no_fault : (v w : World) (f : Option StepFault) → option_map_or Err f (Ok v) ≡ Ok w → f ≡ None
no_fault v w None e = refl
no_fault v w (Some f) e = absurd (cc)

module _ (m : AppSpec) (served : ℕ → Bool) (Fine : Act → Type 0) (P : World → Type 0) (step : (w : World) (act : Act) → Fine act
    → fault_of w act ≡ None → P w → P (does m served w act)) where
  one_keeps : (v w : World) (act : Act) (more : List Act) (r : Result World StepFault) → acts m served v act ≡ r → Fine act → P v →
      ((u : World) → P u → runs m served more u ≡ Ok w → P w) → (r >>= runs m served more) ≡ Ok w → P w
  one_keeps v w act more (Ok u) q f p rest e =
      rest u (subst P (done_world (does m served v act) u (fault_of v act) q) (step v act f (no_fault (does m served v act) u (fault_of v act) q) p)) e
  one_keeps v w act more (Err f) q g p rest e = absurd (cc)

  pub run_keeps : (schedule : List Act) (v w : World) → All Fine schedule → P v → runs m served schedule v ≡ Ok w → P w
  run_keeps [] v w a p e = subst P (let z : v ≡ w = cc in z) p
  run_keeps (act ∷ more) v w a p e =
      one_keeps v w act more (acts m served v act) refl (a 0 act (omega arith)) p
      (λ u q. run_keeps more u w (λ k d l. a (suc k) d (omega (arith, l))) q) e

module _ (m : AppSpec) (pages : Pages) (steady : IsSteady m) (H : Connection → Type 0) (bytes : HasBytes pages → SendsBytesWhere m H) where
  module _ (served : ℕ → Bool) (P : World → Type 0) (step : (w : World) (act : Act) → Harmless m served w act → P w → FitWorld w
      → P (does m served w act)) where
    record Kept (w : World) : Type 0 where
      fact : P w
      fits : FitWorld w
      room : HasRoom w
      known : HasBytes pages → KnownWorld H w

    abbrev Fine : Act → Type 0
    Fine act = IsAct act × (HasBytes pages ⊎ IsPlainAct act)

    harmless : (w : World) (act : Act) → Fine act → fault_of w act ≡ None → Kept w → Harmless m served w act
    harmless w act f n k = elim f.1 [ inl page ↦ act_harmless m served w act f.0 n (k.known page).sound | inr plain ↦ plain_harmless m served w act plain ]

    act_keeps : (w : World) (act : Act) → Fine act → fault_of w act ≡ None → Kept w → Kept (does m served w act)
    act_keeps w act f n k =
        let h : Harmless m served w act = harmless w act f n k in
        record {
          fact = step w act h k.fact k.fits;
          fits = does_fit m steady served w act h k.fits;
          room = keeps_room m served w act h n;
          known = λ page. does_sound m steady H (bytes page) served w act f.0 h k.fits (k.known page);
        }

    fine : (schedule : List Act) → All IsAct schedule → HasBytes pages ⊎ All IsPlainAct schedule → All Fine schedule
    fine schedule a b k d l = (a k d l, elim b [ inl page ↦ inl page | inr plain ↦ inr (plain k d l) ])

    opening_known : (addr : Addr) (numbers : List ℕ) (plan : List Planned) → IsAddr addr → IsPlan plan → HasBytes pages
        → KnownWorld H (initial_world addr numbers plan)
    opening_known addr numbers plan a is page = record {
      sound = opening_sound addr numbers plan a is;
      known = λ i c x. subst H (all_closed 10 i c x) (bytes page).closed_knows;
    }

    schedule_keeps : (addr : Addr) (numbers : List ℕ) (plan : List Planned) (schedule : List Act) (w : World) → IsAddr addr
        → All IsU32 numbers → IsPlan plan → All Fine schedule →
        runs m served schedule (initial_world addr numbers plan) ≡ Ok w → P (initial_world addr numbers plan) → Kept w
    schedule_keeps addr numbers plan schedule w a n is f e p =
        run_keeps m served Fine Kept act_keeps schedule (initial_world addr numbers plan) w f
        record { fact = p; fits = opening_fits addr numbers plan n is; room = omega arith; known = opening_known addr numbers plan a is } e

  -- any fact that each harmless act keeps
  pub reached_where : (P : World → Type 0) → ((served : ℕ → Bool) (w : World) (act : Act) → Harmless m served w act → P w → FitWorld w
      → P (does m served w act)) →
      ((addr : Addr) (numbers : List ℕ) (plan : List Planned) → IsPlan plan → P (initial_world addr numbers plan)) → (w : World) → IsReached m pages w → P w
  reached_where P step opening w r =
      (schedule_keeps r.served P (step r.served) r.start.addr r.start.numbers r.start.plan r.schedule w r.start.is_addr r.start.in_range r.start.is_plan
      (fine r.served P (step r.served) r.schedule r.are_acts r.bytes) r.accepted (opening r.start.addr r.start.numbers r.start.plan r.start.is_plan)).fact

  -- every world that is reached is sound
  known_where : HasBytes pages → (w : World) → IsReached m pages w → KnownWorld H w
  known_where page w r =
      (schedule_keeps r.served (λ v. Unit {0}) (λ v act h p f. tt) r.start.addr r.start.numbers r.start.plan r.schedule w r.start.is_addr
      r.start.in_range r.start.is_plan
      (fine r.served (λ v. Unit {0}) (λ v act h p f. tt) r.schedule r.are_acts r.bytes) r.accepted tt).known page

  -- and has room
  pub room_where : (w : World) → IsReached m pages w → HasRoom w
  room_where w r =
      (schedule_keeps r.served (λ v. Unit {0}) (λ v act h p f. tt) r.start.addr r.start.numbers r.start.plan r.schedule w r.start.is_addr
      r.start.in_range r.start.is_plan
      (fine r.served (λ v. Unit {0}) (λ v act h p f. tt) r.schedule r.are_acts r.bytes) r.accepted tt).room

  -- any fact that each harmless act keeps, from a world that is reached to a later one
  on_where : (P : World → Type 0) → ((served : ℕ → Bool) (w : World) (act : Act) → Harmless m served w act → P w → FitWorld w → P (does m served w act)) →
      (v w : World) → IsLater m pages v w → P v → P w
  on_where P step v w l p =
      let r : IsReached m pages v = l.reached in
      let k = schedule_keeps r.served (λ u. Unit {0}) (λ u act h q f. tt) r.start.addr r.start.numbers r.start.plan r.schedule v
      r.start.is_addr r.start.in_range r.start.is_plan
      (fine r.served (λ u. Unit {0}) (λ u act h q f. tt) r.schedule r.are_acts r.bytes) r.accepted tt in
      (run_keeps m r.served (Fine r.served P (step r.served)) (Kept r.served P (step r.served)) (act_keeps r.served P (step r.served)) l.more v w
      (fine r.served P (step r.served) l.more l.are_acts l.bytes) record { fact = p; fits = k.fits; room = k.room; known = k.known } l.accepted).fact

-- ---- of an application whose text is a page

pub reached : (m : AppSpec) (pages : Pages) → IsPaged m pages → (P : World → Type 0) → ((served : ℕ → Bool) (w : World) (act : Act)
    → Harmless m served w act → P w → FitWorld w → P (does m served w act)) →
    ((addr : Addr) (numbers : List ℕ) (plan : List Planned) → IsPlan plan → P (initial_world addr numbers plan)) → (w : World) → IsReached m pages w → P w
reached m pages lawful P step opening w r = reached_where m pages (steady_of m pages lawful) DeliveredBytes (pages_send_bytes m pages lawful) P step opening w r

pub reached_sound : (m : AppSpec) (pages : Pages) → IsPaged m pages → HasBytes pages → (w : World) → IsReached m pages w → SoundWorld w
reached_sound m pages lawful page w r = (known_where m pages (steady_of m pages lawful) DeliveredBytes (pages_send_bytes m pages lawful) page w r).sound

pub reached_on : (m : AppSpec) (pages : Pages) → IsPaged m pages → (P : World → Type 0) → ((served : ℕ → Bool) (w : World) (act : Act)
    → Harmless m served w act → P w → FitWorld w → P (does m served w act)) →
    (v w : World) → IsLater m pages v w → P v → P w
reached_on m pages lawful P step v w l p = on_where m pages (steady_of m pages lawful) DeliveredBytes (pages_send_bytes m pages lawful) P step v w l p

-- any fact that each harmless act keeps, of a world that is reached with no damage
pub reached_plainly : (m : AppSpec) → IsSteady m → (P : World → Type 0) → ((served : ℕ → Bool) (w : World) (act : Act)
    → Harmless m served w act → P w → FitWorld w → P (does m served w act)) →
    ((addr : Addr) (numbers : List ℕ) (plan : List Planned) → IsPlan plan → P (initial_world addr numbers plan)) → (w : World) → IsReachedPlainly m w → P w
reached_plainly m steady P step opening w r =
    (run_keeps m r.served IsPlainAct (λ v. P v × FitWorld v)
    (λ v act plain ok k. (let h : Harmless m r.served v act = plain_harmless m r.served v act plain in
    (step r.served v act h k.0 k.1, does_fit m steady r.served v act h k.1)))
    r.schedule (started r.start) w r.plain (
      opening r.start.addr r.start.numbers r.start.plan r.start.is_plan,
      opening_fits r.start.addr r.start.numbers r.start.plan r.start.in_range r.start.is_plan,
    ) r.accepted).0

-- and such a world has room
pub room_plainly : (m : AppSpec) (w : World) → IsReachedPlainly m w → HasRoom w
room_plainly m w r =
    run_keeps m r.served IsPlainAct HasRoom (λ v act plain ok k. keeps_room m r.served v act (plain_harmless m r.served v act plain) ok)
    r.schedule (started r.start) w r.plain (omega arith) r.accepted
