-- A link that loses nothing: every datagram is delivered once and in order, in rounds.
use Rattle.std.specs.Prelude.{◌≡◌, ◌+◌, ◌*◌, ◌<◌, ◌≤◌, ◌∷◌, [], All, Bool, length, List, Ok, replicate, slice_get, Some, true, ℕ}
use Rattle.uip_wire.specs.declared.addr.Addr.{Addr}
use Rattle.app_events.specs.Prelude.{AppState, AppSpec, Pages, IsPaged, IsU32, IsAddr}
use Rattle.tcp_machine.specs.Prelude.{first_mss}
use Rattle.uip_node.specs.Prelude.{AnswersIn}
use Rattle.link_client.specs.Prelude.{offered}
use Rattle.link_client.specs.declared.client_state.ClientState.TheVariants.{Closed}
use Rattle.link_world.specs.World.{World, Side, is_clean}
use Rattle.link_world.specs.History.{Planned, IsPlan, initial_world, page_of, is_whole}
use Rattle.link_world.specs.Schedule.{plays}
use Rattle.link_schedule.specs.declared.event.Event.TheVariants.{Opens, Round}

-- The client has received its whole page, and saw the FIN of the server.
pub record IsServedWhole (pages : Pages) (w : World) : Type 0 where
  pub side : Side
  pub there : slice_get w.sides 0 ≡ Some side
  pub closed : side.client.state ≡ Closed
  pub clean : is_clean side ≡ true
  pub received : side.client.received ≡ page_of pages w side
  pub whole : is_whole pages w side ≡ true

-- One client opens over a link that loses nothing. Then rounds follow: two for each segment of its request, two for each segment of its
-- page, and six more. The client receives its whole page.
abbrev pub HonestLink : Type 0
HonestLink =
    (m : AppSpec) (pages : Pages) → IsPaged m pages → (served : ℕ → Bool) (addr : Addr) (numbers : List ℕ) (p : Planned) →
    IsAddr addr → All IsU32 numbers → IsPlan (p ∷ []) → served p.setup.server_port.0 ≡ true →
    (fine : AppState → Bool) (left : AppState → ℕ) (parts texts : ℕ) →
    AnswersIn m p.request (first_mss (offered p.setup.mss)) fine left texts →
    0 < length p.request → length p.request ≤ parts * p.setup.seg → 2 * parts + 2 * texts + 7 ≤ 65535 →
    (w : World) × (plays m served (Opens 1 ∷ replicate (2 * parts + 2 * texts + 6) Round) (initial_world addr numbers (p ∷ [])) ≡ Ok w)
    × IsServedWhole pages w
