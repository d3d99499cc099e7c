-- What all steps of a connection have in common.
use Rattle.std.specs.Prelude.{ℕ, ◌≡◌, false, List}
use Rattle.app_events.specs.Prelude.{AppSpec}
use Rattle.app_events.specs.declared.app.App.{Ghosts}
use Rattle.tcp_table.specs.declared.conn.Conn.{Conn}
use Rattle.tcp_machine.specs.Ask.{Outcome}
use Rattle.tcp_machine.specs.Connection.{Connection}
use Rattle.tcp_machine.specs.Fits.{Rests, SameSockets, StepFits}
use Rattle.tcp_machine.specs.Sound.{IsSound}
use Rattle.tcp_machine.specs.Represents.{ConnRepresents, Meets, MeetsAlone, NumbersRepresent, is_open}
use Rattle.tcp_machine.specs.declared.step.Step.{Step}

-- The call refines this step: the connection represents the result of the definition, requests the same step, and stays sound. If a
-- connection in CLOSE-WAIT has something outstanding before, it has so after.
pub record Refines {A S : Type 0} (g : Ghosts A S) (f : AppSpec → Connection → List ℕ → Outcome) (old : Conn A) (before : S) (new : Conn A)
    (after : S) (step : Step) : Type 0 where
  pub same : g.config after ≡ g.config before
  pub sound : IsSound g (g.config before) new
  pub place : SameSockets old new
  pub fits : Rests old → StepFits new step
  pub meets : (a : Connection) → ConnRepresents g (g.config before) old a
      → Meets g (g.config before) new (g.numbers after) step (f (g.app_spec (g.config before)) a (g.numbers before))

-- The same for a step that does not concern the application.
pub record RefinesAlone {A : Type 0} (f : Connection → List ℕ → Outcome) (old new : Conn A) (step : Step) : Type 0 where
  pub closed_to_it : is_open new.state ≡ false
  pub place : SameSockets old new
  pub fits : StepFits new step
  pub meets : (a : Connection) (ns : List ℕ) → NumbersRepresent old a → MeetsAlone new ns step (f a ns)
