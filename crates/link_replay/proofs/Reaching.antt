-- Where accepted acts lead from a world of a replay.
use Rattle.link_replay.proofs.Prelude.{All, ◌≡◌, ℕ, List, [], ◌∷◌, ◌++◌, sym, ap, ◌∙◌, inl, refl, subst, Bool, Result, Ok, Err, IsErr}
use Rattle.link_replay.proofs.Prelude.{IsErrAnd, All-append, AppSpec, World, acts, runs, started, Act, StepFault, IsAct, IsReached}
use Rattle.link_replay.proofs.Prelude.{with_mark, runs_mark, runs_joined, reached_sound, sound_marked, all_nil, all_cons, IsAt, ActsEnd}
use Rattle.link_replay.proofs.Prelude.{ActSteps, DamageLoses, Stops, StopsAt, NoDatagram, NoByte, AlreadyOpen, NotOpen, Full, NoMemory}
use Rattle.link_schedule.specs.Numbers.{◌>>=◌}
use Rattle.link_world.proofs.DamageThere.{there}

pub handed : (r : Result (Unit {0}) StepFault) (e : StepFault) → IsErr r → IsErrAnd r (λ f. f ≡ e) → r ≡ Err e
handed (Ok x) e h k = absurd (cc)
handed (Err f) e h k = ap Err k

module _ (m : AppSpec) (served : ℕ → Bool) where
  -- acts in turn
  pub at_run : (w v : World) (more : List Act) → IsAt m served w → All IsAct more → runs m served more w ≡ Ok v → IsAt m served v
  at_run w v more h a e = record {
    pages = h.pages;
    lawful = h.lawful;
    bytes = h.bytes;
    start = h.start;
    schedule = h.schedule ++ more;
    are_acts = All-append IsAct h.schedule more h.are_acts a;
    accepted = runs_joined m served h.schedule more (started h.start)
        ∙ ap (λ (r : Result World StepFault). r >>= runs m served more) h.accepted
        ∙ runs_mark m served 0 more w
        ∙ ap (λ (r : Result World StepFault). with_mark 0 r) e;
  }

  -- the mark alone
  pub at_marked : (w : World) (k : ℕ) → IsAt m served w → IsAt m served (record w { mark = k })
  at_marked w k h = h

  -- what every law of reached worlds asks for
  pub reached_at : (w : World) → (h : IsAt m served w) → IsReached m h.pages (record w { mark = 0 })
  reached_at w h = record {
    served = served;
    start = h.start;
    schedule = h.schedule;
    are_acts = h.are_acts;
    bytes = inl h.bytes;
    accepted = h.accepted;
  }

  -- the acts that were done, and the world that they reach
  pub record Gone (Now : World → Type 0) (w : World) (all left : List Act) : Type 0 where
    pub before : List Act
    pub joined : before ++ left ≡ all
    pub world : World
    pub reached : runs m served before w ≡ Ok world
    pub at : IsAt m served world
    pub now : Now world

  joined_on : (xs : List Act) (x : Act) (ys : List Act) → (xs ++ x ∷ []) ++ ys ≡ xs ++ x ∷ ys
  joined_on [] x ys = refl
  joined_on (z ∷ xs) x ys = ap (λ (k : List Act). z ∷ k) (joined_on xs x ys)

  pub gone_on : (Before Now : World → Type 0) (w : World) (act : Act) (left all : List Act) (done : Unit {0}) → IsAct act →
      ((v : World) → IsAt m served v → Before v → ActSteps Now v (Ok done) (acts m served v act)) → Gone Before w all (act ∷ left) → Gone Now w all left
  gone_on Before Now w act left all done a f h =
      let s = f h.world h.at h.now in
      let one : runs m served (act ∷ []) h.world ≡ Ok s.0 = ap (λ (r : Result World StepFault). r >>= runs m served []) s.1 in
      record {
        before = h.before ++ act ∷ [];
        joined = joined_on h.before act left ∙ h.joined;
        world = s.0;
        reached = runs_joined m served h.before (act ∷ []) w ∙ ap (λ (r : Result World StepFault). r >>= runs m served (act ∷ [])) h.reached ∙ one;
        at = at_run h.world s.0 (act ∷ []) h.at (all_cons IsAct act [] a (all_nil IsAct)) one;
        now = s.2;
      }

  pub stopped : (Before Now : World → Type 0) (w : World) (act : Act) (left all : List Act) (fault : StepFault) →
      ((v : World) → IsAt m served v → Before v → ActSteps Now v (Err fault) (acts m served v act)) → Gone Before w all (act ∷ left)
      → Stops m served Now all w (Err fault)
  stopped Before Now w act left all NoMemory f h = tt
  stopped Before Now w act left all NoDatagram f h = let s = f h.world h.at h.now in
      record { before = h.before; act = act; after = left; joined = h.joined; world = h.world; reached = h.reached; refused = s.0; now = s.1 }
  stopped Before Now w act left all NoByte f h = let s = f h.world h.at h.now in
      record { before = h.before; act = act; after = left; joined = h.joined; world = h.world; reached = h.reached; refused = s.0; now = s.1 }
  stopped Before Now w act left all AlreadyOpen f h = let s = f h.world h.at h.now in
      record { before = h.before; act = act; after = left; joined = h.joined; world = h.world; reached = h.reached; refused = s.0; now = s.1 }
  stopped Before Now w act left all NotOpen f h = let s = f h.world h.at h.now in
      record { before = h.before; act = act; after = left; joined = h.joined; world = h.world; reached = h.reached; refused = s.0; now = s.1 }
  stopped Before Now w act left all Full f h = let s = f h.world h.at h.now in
      record { before = h.before; act = act; after = left; joined = h.joined; world = h.world; reached = h.reached; refused = s.0; now = s.1 }

  -- what all acts reach, those that are left reach
  runs_left : (Now : World → Type 0) (w : World) (all left : List Act) (h : Gone Now w all left) → runs m served all w ≡ runs m served left h.world
  runs_left Now w all left h =
      ap (λ (xs : List Act). runs m served xs w) (sym h.joined) ∙ runs_joined m served h.before left w
      ∙ ap (λ (r : Result World StepFault). r >>= runs m served left) h.reached

  pub all_gone : (Now : World → Type 0) (w : World) (all left : List Act) → left ≡ [] → Gone Now w all left → (v : World) × (runs m served all w ≡ Ok v) × Now v
  all_gone Now w all left none h = (h.world, runs_left Now w all left h ∙ ap (λ (xs : List Act). runs m served xs h.world) none, h.now)

  stop_ends : (Now : World → Type 0) (all : List Act) (w : World) (fault : StepFault) → StopsAt m served Now all w fault → runs m served all w ≡ Err fault
  stop_ends Now all w fault h =
      ap (λ (xs : List Act). runs m served xs w) (sym h.joined) ∙ runs_joined m served h.before (h.act ∷ h.after) w
      ∙ ap (λ (r : Result World StepFault). r >>= runs m served (h.act ∷ h.after)) h.reached
      ∙ ap (λ (r : Result World StepFault). r >>= runs m served h.after) h.refused

  -- acts that stopped before one of them end there
  pub ends_stopped : (Now : World → Type 0) (all : List Act) (w : World) (r : Result (Unit {0}) StepFault) (e : StepFault) → r ≡ Err e
      → Stops m served Now all w r → ActsEnd Now r (runs m served all w)
  ends_stopped Now all w r e q h = subst (λ (x : Result (Unit {0}) StepFault). ActsEnd Now x (runs m served all w)) (sym q)
      (by_fault e (subst (λ (x : Result (Unit {0}) StepFault). Stops m served Now all w x) q h))
    where
      by_fault : (fault : StepFault) → Stops m served Now all w (Err fault) → ActsEnd Now (Err fault) (runs m served all w)
      by_fault NoMemory h = tt
      by_fault NoDatagram h = stop_ends Now all w NoDatagram h
      by_fault NoByte h = stop_ends Now all w NoByte h
      by_fault AlreadyOpen h = stop_ends Now all w AlreadyOpen h
      by_fault NotOpen h = stop_ends Now all w NotOpen h
      by_fault Full h = stop_ends Now all w Full h

pub damage_loses : DamageLoses
damage_loses m served w h k at mask e x l a b =
    there m served w k at mask e x l a b (sound_marked w 0 (reached_sound m h.pages h.lawful h.bytes (record w { mark = 0 }) (reached_at m served w h)))
