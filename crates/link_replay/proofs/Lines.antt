-- The acts of a line, and the world after it.
use Rattle.link_replay.proofs.Prelude.{All, ◌≡◌, ℕ, zero, suc, List, [], length, replicate, refl, sym, ap, subst, Bool, Result, Ok, false}
use Rattle.link_replay.proofs.Prelude.{AppSpec, Ghosts, initial_node, World, OfPing, acts_of, mark_after, plays_line, with_mark, runs, Act}
use Rattle.link_replay.proofs.Prelude.{StepFault, Pinger, IsAct, OfLine, line_acts, WorldRepresents, CodeWorld}
use Rattle.link_schedule.specs.declared.event.Event.{Event}
use Rattle.link_replay.proofs.Places.{link_marked}

length_same : {X : Type 0} (n : ℕ) (x : X) → length (replicate n x) ≡ n
length_same zero x = refl
length_same (suc n) x = ap suc (length_same n x)

-- some world with a mark and this number of datagrams
some_world : ℕ → ℕ → World
some_world mark sent = record {
  node = initial_node (record { 0 = [] }) [];
  sides = [];
  sent = replicate sent (record { who = Pinger; tick = 0; epoch = 0; again = false; content = OfPing [] });
  mark = mark;
}

-- the acts of a line fit where it does
pub all_acts : (m : AppSpec) (served : ℕ → Bool) (items : List Act) (event : Event) (mark sent : ℕ)
    → ((w : World) → w.mark ≡ mark → length w.sent ≡ sent → items ≡ acts_of w event) → OfLine IsAct event → All IsAct items
unfolding some_world
all_acts m served items event mark sent is h =
    subst (λ (xs : List Act). All IsAct xs) (sym (is (some_world mark sent) refl (length_same sent _)))
    (line_acts m served IsAct (some_world mark sent) event h)

module _ {A S : Type 0} (g : Ghosts A S) where
  -- the acts of a line are done, and the mark moves
  pub line_done : (m : AppSpec) (served : ℕ → Bool) (world : CodeWorld A S) (w u : World) (event : Event) (mark : ℕ)
      → runs m served (acts_of w event) w ≡ Ok u → mark ≡ mark_after w event → WorldRepresents g world u
      → (v : World) × (plays_line m served w event ≡ Ok v) × WorldRepresents g (record world { mark = mark }) v
  line_done m served world w u event mark e k h = (
    record u { mark = mark_after w event },
    ap (λ (r : Result World StepFault). with_mark (mark_after w event) r) e,
    record { node = h.node; link = link_marked world.link u (mark_after w event) h.link; home = h.home; mark = k; fresh = h.fresh },
  )
