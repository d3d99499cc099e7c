-- A step that does not concern the application, as one of all steps.
use Rattle.tcp_machine.proofs.Prelude.{◌≡◌, ℕ, Bool, true, false, List, refl, sym, ◌∙◌, subst, AppSpec, Ghosts, State, PlainSegment, Conn}
use Rattle.tcp_machine.proofs.Prelude.{Outcome, Connection, is_live, by_state, tick_by, HasSoundNumbers, IsSound, ConnRepresents, Meets}
use Rattle.tcp_machine.proofs.Prelude.{MeetsAlone, NumbersRepresent, is_open, Refines, RefinesAlone, Step}

neither : (b : Bool) → b ≡ true → b ≡ false → ⊥
neither true e f = cc
neither false e f = cc

pub meets_alone : {A S : Type 0} (g : Ghosts A S) (k : g.Config) (d : Conn A) (ns : List ℕ) (step : Step) (o : Outcome)
    → MeetsAlone d ns step o → Meets g k d ns step o
meets_alone g k d ns step o m = record {
  connection = record { numbers = m.connection; part = λ open_to_it. absurd (neither (is_open o.connection.state) open_to_it m.closed_to_it) };
  counted = m.counted;
  asked = m.asked;
}

pub sound_alone : {A S : Type 0} (g : Ghosts A S) (k : g.Config) (d : Conn A) → (is_live d.state ≡ true → HasSoundNumbers d)
    → is_open d.state ≡ false → IsSound g k d
sound_alone g k d numbers closed_to_it = record {
  numbers = numbers;
  says = λ open_to_it. absurd (neither (is_open d.state) open_to_it closed_to_it);
}

-- the row of a known state, where the application speaks
pub row_spoken : {A S : Type 0} (g : Ghosts A S) (before after : S) (c d : Conn A) (step : Step) (acked : Bool) (seg : PlainSegment) (s : State) → c.state ≡ s →
    Refines g (λ m a ns. by_state m s acked a ns seg) c before d after step → Refines g (λ m a ns. by_state m a.state acked a ns seg) c before d after step
row_spoken g before after c d step acked seg s e t =
    let k = g.config before in
    let ns = g.numbers before in
    record {
      same = t.same;
      sound = t.sound;
      place = t.place;
      fits = t.fits;
      meets = λ a h.
          subst (λ (x : State). Meets g k d (g.numbers after) step (by_state (g.app_spec k) x acked a ns seg)) (sym e ∙ h.numbers.state) (t.meets a h);
    }

-- the same if it has nothing more to send
pub row_alone : {A S : Type 0} (g : Ghosts A S) (shared : S) (c d : Conn A) (step : Step) (acked : Bool) (seg : PlainSegment) (s : State) →
    c.state ≡ s → (is_live d.state ≡ true → HasSoundNumbers d) → ((m : AppSpec) → RefinesAlone (λ a ns. by_state m s acked a ns seg) c d step) →
    Refines g (λ m a ns. by_state m a.state acked a ns seg) c shared d shared step
row_alone g shared c d step acked seg s e sound takes =
    let k = g.config shared in
    let ns = g.numbers shared in
    let t = takes (g.app_spec k) in
    row_spoken g shared shared c d step acked seg s e (record {
      same = refl;
      sound = sound_alone g k d sound t.closed_to_it;
      place = t.place;
      fits = λ _. t.fits;
      meets = λ a h. meets_alone g k d ns step (by_state (g.app_spec k) s acked a ns seg) (t.meets a ns h.numbers);
    })
