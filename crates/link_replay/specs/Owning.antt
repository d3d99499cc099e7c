-- The own acts of a client.
use Rattle.std.specs.Prelude.{ℕ, Option, List}
use Rattle.link_client.specs.Prelude.{Sends, AbstractClient, ClientStep, client_opens, client_again, client_closes, client_aborts}
use Rattle.link_world.specs.Prelude.{Side, with_client}
use Rattle.link_replay.specs.declared.world.client_steps.Own.{Own}
use Rattle.link_replay.specs.declared.world.client_steps.Own.TheVariants as own
use Rattle.link_replay.specs.Plain.{CodeSide}
use Rattle.link_replay.specs.Represents.{SideRepresents}

abbrev pub own_step : Own → AbstractClient → ClientStep
own_step own.Opens = client_opens
own_step own.Again = client_again
own_step own.Closes = client_closes
own_step own.Aborts = client_aborts

-- A client of the code took this step. What it sends is at the start of the area.
pub record Stepped (step : ClientStep) (s : Side) (side : CodeSide) (answer : Option ℕ) (area : List ℕ) : Type 0 where
  pub represented : SideRepresents side (with_client s step.client)
  pub sent : Sends s.client.setup step.sent answer area
