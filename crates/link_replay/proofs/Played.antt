-- The lines of a schedule in turn.
use Rattle.link_replay.proofs.Prelude.{All, ◌≡◌, ℕ, ◌+◌, Bool, List, [], ◌∷◌, map, refl, sym, ap, ◌∙◌, subst, Some, slice_get, Result, Ok}
use Rattle.link_replay.proofs.Prelude.{Err, IsErr, AppSpec, Ghosts, Pages, IsPaged, IsU32, Plan, Keeps, SchedulePlan, Line, ReadSchedule}
use Rattle.link_replay.proofs.Prelude.{Why, World, runs, IsPlan, IsPlanned, Planned, BadLine, acts_of, mark_after, plays, plays_from}
use Rattle.link_replay.proofs.Prelude.{plays_line, goes_on_with, with_mark, StepFault, NoDatagram, NoByte, AlreadyOpen, NotOpen, Full}
use Rattle.link_replay.proofs.Prelude.{NoMemory, HasBytes, IsAct, OfLine, all_nil, line_acts, opening_for, plan_from, server, LinesEnd}
use Rattle.link_replay.proofs.Prelude.{PlaysSchedule, Reaches, Refuses, event_at, refusal_at, ActsEnd, IsAt, WorldRepresents, CodeWorld}
use Rattle.std.specs.Result.{IsErrAnd}
use Rattle.link_schedule.specs.declared.read_schedule.ReadSchedule.TheVariants.{Bad, NoMemory as NoRoom}
use Rattle.link_schedule.specs.declared.event.Event.{Event}
use Rattle.link_replay.proofs.Opened.{is_plan, server_is_addr}
use Rattle.link_replay.proofs.Reaching.{at_marked, at_run}

-- a world under a mark
record Marked (k : ℕ) (r : Result World StepFault) (v : World) : Type 0 where
  world : World
  reached : r ≡ Ok world
  is : v ≡ record world { mark = k }

marked : (k : ℕ) (r : Result World StepFault) (v : World) → with_mark k r ≡ Ok v → Marked k r v
marked k (Ok u) v h = record { world = u; reached = refl; is = (let e : record u { mark = k } ≡ v = cc in sym e) }
marked k (Err f) v h = absurd (cc)

module _ (m : AppSpec) (served : ℕ → Bool) where
  -- the opening world is reached by nothing
  pub at_opening : (pages : Pages) (numbers : List ℕ) (plans : List Plan) → IsPaged m pages → HasBytes pages → All IsU32 numbers
      → IsPlan (plan_from 1 plans) → IsAt m served (opening_for numbers plans)
  at_opening pages numbers plans lawful bytes in_range plan = record {
    pages = pages;
    lawful = lawful;
    bytes = bytes;
    start = record { addr = server; is_addr = server_is_addr; numbers = numbers; in_range = in_range; plan = plan_from 1 plans; is_plan = plan };
    schedule = [];
    are_acts = all_nil IsAct;
    accepted = refl;
  }

  -- a line leads from a world that is reached to one that is
  at_line : (w v : World) (event : Event) → IsAt m served w → OfLine IsAct event → plays_line m served w event ≡ Ok v → IsAt m served v
  at_line w v event h f e =
      let r = marked (mark_after w event) (runs m served (acts_of w event) w) v e in
      subst (IsAt m served) (sym r.is) (at_marked m served r.world (mark_after w event) (at_run m served w r.world (acts_of w event) h
      (line_acts m served IsAct w event f) r.reached))

  -- what holds in the midst of lines
  pub record AmidLines (Now : World → Type 0) (place : ℕ) (left : List Line) (end : Result World BadLine) : Type 0 where
    pub world : World
    pub rest : plays_from m served place (map event_at left) world ≡ end
    pub at : IsAt m served world
    pub now : Now world

  -- one line further
  pub line_further : (Before Now : World → Type 0) (line : Line) (left : List Line) (place : ℕ) (end : Result World BadLine)
      (done : Unit {0}) → OfLine IsAct line.event
      → ((w : World) → IsAt m served w → Before w → ActsEnd Now (Ok done) (plays_line m served w line.event))
      → AmidLines Before place (line ∷ left) end → AmidLines Now (place + 1) left end
  line_further Before Now line left place end done a f h =
      let s = f h.world h.at h.now in
      record {
        world = s.0;
        rest = sym (ap (λ (r : Result World StepFault). goes_on_with place (plays_from m served (place + 1) (map event_at left)) r) s.1) ∙ h.rest;
        at = at_line h.world s.0 line.event h.at a s.1;
        now = s.2;
      }

  -- no line is left
  pub all_lines : (Now : World → Type 0) (place : ℕ) (end : Result World BadLine) → AmidLines Now place [] end → Reaches m served Now end
  all_lines Now place end h = record { world = h.world; meant_so = sym h.rest; at = h.at; now = h.now }

  refuses : (Before : World → Type 0) (lines : List Line) (line : Line) (left : List Line) (place : ℕ) (end : Result World BadLine)
      (fault : StepFault) (why : Why) → slice_get lines place ≡ Some line
      → (h : AmidLines Before place (line ∷ left) end) → plays_line m served h.world line.event ≡ Err fault → refusal_at line.at fault
      ≡ Bad line.at why → Refuses lines end line.at why
  refuses Before lines line left place end fault why there h e reported = record {
    place = place;
    fault = fault;
    meant_so = sym h.rest ∙ ap (λ (r : Result World StepFault). goes_on_with place (plays_from m served (place + 1) (map event_at left)) r) e;
    line = line;
    there = there;
    numbered = refl;
    reported = reported;
  }

  -- a line is refused
  pub line_refused : {X : Type 0} (Now : X → World → Type 0) (Before After : World → Type 0) (lines : List Line) (line : Line)
      (left : List Line) (place : ℕ) (end : Result World BadLine) (fault : StepFault)
      → slice_get lines place ≡ Some line → ((w : World) → IsAt m served w → Before w
      → ActsEnd After (Err fault) (plays_line m served w line.event)) → AmidLines Before place (line ∷ left) end
      → LinesEnd m served Now lines (Err (refusal_at line.at fault)) end
  line_refused Now Before After lines line left place end NoDatagram there f h = refuses Before lines line left place end NoDatagram
      Why.NoDatagram there h (f h.world h.at h.now) refl
  line_refused Now Before After lines line left place end NoByte there f h = refuses Before lines line left place end NoByte Why.NoByte
      there h (f h.world h.at h.now) refl
  line_refused Now Before After lines line left place end AlreadyOpen there f h = refuses Before lines line left place end AlreadyOpen
      Why.AlreadyOpen there h (f h.world h.at h.now) refl
  line_refused Now Before After lines line left place end NotOpen there f h = refuses Before lines line left place end NotOpen Why.NotOpen
      there h (f h.world h.at h.now) refl
  line_refused Now Before After lines line left place end Full there f h = refuses Before lines line left place end Full Why.Full there h
      (f h.world h.at h.now) refl
  line_refused Now Before After lines line left place end NoMemory there f h = tt

  -- a refusal has the same meaning in place of every result
  pub same_refusal : {X Y : Type 0} (Before : X → World → Type 0) (Now : Y → World → Type 0) (lines : List Line) (end : Result World BadLine) (e : ReadSchedule)
      → LinesEnd m served Before lines (Err e) end → LinesEnd m served Now lines (Err e) end
  same_refusal Before Now lines end (Bad number why) h = h
  same_refusal Before Now lines end NoRoom h = tt

-- a refusal is passed on
pub handed_on : {X : Type 0} (r : Result X ReadSchedule) (e : ReadSchedule) → IsErr r → IsErrAnd r (λ f. f ≡ e) → r ≡ Err e
handed_on (Ok x) e h k = absurd (cc)
handed_on (Err f) e h k = ap Err k

module _ {A S : Type 0} (g : Ghosts A S) where
  -- the lines of a schedule, from the opening world of its clients on
  pub whole_schedule : (world : CodeWorld A S) (After : World → Type 0) (shared : S) (schedule : SchedulePlan) (clients : List Plan)
      (lines : List Line) (answer : Result (Unit {0}) ReadSchedule)
      → Keeps schedule → clients ≡ schedule.clients → lines ≡ schedule.lines → world.node.shared ≡ shared
      → ((k : ℕ) (p : Planned) → slice_get (plan_from 1 clients) k ≡ Some p → IsPlanned p) → WorldRepresents g world (opening_for (g.numbers shared) clients)
      → ((w : World) → IsAt (g.app_spec (g.config world.node.shared)) g.served w → WorldRepresents g world w
      → LinesEnd (g.app_spec (g.config world.node.shared)) g.served (λ (done : Unit {0}). After) lines answer
      (plays (g.app_spec (g.config world.node.shared)) g.served (map event_at lines) w))
      → (pages : Pages) → IsPaged (g.app_spec (g.config shared)) pages → HasBytes pages → All IsU32 (g.numbers shared)
      → PlaysSchedule (g.app_spec (g.config shared)) g.served (g.numbers shared) schedule (λ (done : Unit {0}). After) answer
  whole_schedule world After shared schedule clients lines answer kept same_clients same_lines same_shared each represented ends pages lawful bytes words =
      let m = g.app_spec (g.config shared) in
      let plans = schedule.clients in
      let w = opening_for (g.numbers shared) plans in
      let planned : (k : ℕ) (p : Planned) → slice_get (plan_from 1 plans) k ≡ Some p → IsPlanned p
      = subst (λ (cs : List Plan). (k : ℕ) (p : Planned) → slice_get (plan_from 1 cs) k ≡ Some p → IsPlanned p) same_clients each in
      let at : IsAt m g.served w = at_opening m g.served pages (g.numbers shared) plans lawful bytes words (is_plan plans kept.apart planned) in
      let now : WorldRepresents g world w
      = subst (λ (cs : List Plan). WorldRepresents g world (opening_for (g.numbers shared) cs)) same_clients represented in
      subst (λ (ls : List Line). LinesEnd m g.served (λ (done : Unit {0}). After) ls answer (plays m g.served (map event_at ls) w)) same_lines
      (subst (λ (s : S). IsAt (g.app_spec (g.config s)) g.served w → LinesEnd (g.app_spec (g.config s)) g.served
      (λ (done : Unit {0}). After) lines answer (plays (g.app_spec (g.config s)) g.served (map event_at lines) w)) same_shared
      (λ h. ends w h now) at)
