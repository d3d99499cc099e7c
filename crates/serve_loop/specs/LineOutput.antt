-- The output for the items of a line.
use Rattle.std.specs.Prelude.{ℕ, Bool, List, []}
use Rattle.app_events.specs.Prelude.{AppSpec}
use Rattle.uip_edge.specs.declared.item.Item.{Item}
use Rattle.uip_wire.specs.declared.addr.Addr.{Addr}
use Rattle.uip_node.specs.Prelude.{initial_node}
use Rattle.line_medium.specs.Prelude.{MediumSpec}
use Rattle.serve_loop.specs.StationRuns.{Station, output}
use Rattle.serve_loop.specs.LineStationEvents.{station_events_of_line}

-- the initial node at the address `own`, with a medium that has done nothing
abbrev pub initial_station : {A : Type 0} → Addr → List ℕ → Station A
initial_station own numbers = record { acts = []; node = initial_node own numbers }

-- The output for the items of a line over a medium: what node and medium send for its station events, from the initial state.
abbrev pub output_by : {A : Type 0} → MediumSpec A → AppSpec → (ℕ → Bool) → List ℕ → Addr → ℕ → List Item → List ℕ
output_by spec m ports numbers own pace items =
    output m ports spec own (station_events_of_line spec own pace items) (initial_station own numbers)
