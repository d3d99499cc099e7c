-- The acts of a schedule, and when they are refused.
-- [add: act] Its change of the world, its refusals, and the numbers that it needs.
use Rattle.std.specs.Option.{option_map_or, option_or}
use Rattle.std.specs.Prelude.{ℕ, ◌+◌, Bool, true, false, List, [], ◌∷◌, length, Option, Some, None, Result, Ok, Err, if◌then◌else◌, nat_lt}
use Rattle.app_events.specs.Prelude.{AppSpec}
use Rattle.uip_node.specs.Prelude.{Event, tick, event_of}
use Rattle.link_client.specs.Prelude.{AbstractClient, ClientStep, client_takes, client_opens}
use Rattle.link_client.specs.Prelude.{client_again, client_closes, client_aborts, advertises_window}
use Rattle.link_client.specs.declared.client_state.ClientState.{ClientState}
use Rattle.link_client.specs.declared.client_state.ClientState.TheVariants.{Idle}
use Rattle.link_schedule.specs.Numbers.{◌>>=◌}
use Rattle.link_world.specs.World.{World, Side, at_side, client_stepped, delivers, node_handles, numbered, posts}
use Rattle.link_world.specs.World.Content.{OfPing}
use Rattle.link_world.specs.declared.act.Act.{Act}
use Rattle.link_world.specs.declared.step_fault.StepFault.{StepFault}
use Rattle.link_world.specs.declared.step_fault.StepFault.TheVariants.{NoDatagram, NoByte, AlreadyOpen, NotOpen, Full}
use Rattle.link_world.specs.declared.who.Who.{Who}
use Rattle.link_world.specs.declared.who.Who.TheVariants.{FromClient, FromNode, Pinger}
use Rattle.link_world.specs.Bytes.{ping_from, sent_bytes, changed, receives_datagram}

-- an act of the client itself
abbrev pub client_acts : World → ℕ → (AbstractClient → ClientStep) → World
client_acts w number act = at_side w number (λ side. client_stepped w number side (act side.client))

abbrev pub handles_all : AppSpec → (ℕ → Bool) → List Event → World → World
handles_all m served [] w = w
handles_all m served (e ∷ es) w = handles_all m served es (node_handles m served w e)

-- A client receives these bytes. It accepts them if they are a segment of its server.
abbrev pub handed : World → ℕ → List ℕ → Side → World
handed w number bytes side =
    option_map_or (λ s. client_stepped w number side (client_takes side.client s)) (receives_datagram side.client.setup bytes) w

-- A damaged datagram is delivered as bytes. This does not count as a delivery: no mark of a client changes.
abbrev pub hands_over : AppSpec → (ℕ → Bool) → World → List ℕ → Who → World
hands_over m served w bytes (FromClient number) = node_handles m served w (event_of w.node.addr bytes)
hands_over m served w bytes Pinger = node_handles m served w (event_of w.node.addr bytes)
hands_over m served w bytes (FromNode number) = at_side w number (handed w number bytes)

-- the effect of an act that is not refused
abbrev pub does : AppSpec → (ℕ → Bool) → World → Act → World
does m served w (Act.Opens number) = client_acts w number client_opens
does m served w (Act.Again number) = client_acts w number client_again
does m served w (Act.Closes number) = client_acts w number client_closes
does m served w (Act.Aborts number) = client_acts w number client_aborts
does m served w (Act.Window number window) = client_acts w number (advertises_window window)
does m served w (Act.Ping source) = posts w Pinger false (OfPing (ping_from source w.node.addr))
does m served w (Act.Give k) = option_map_or (λ e. delivers m served w k e e.who e.content) (numbered w.sent k) w
does m served w (Act.Damage k at mask) =
    option_map_or (λ e. hands_over m served w (changed (sent_bytes w e) at mask) e.who) (numbered w.sent k) w
does m served w Act.Tick = handles_all m served tick w

-- The numbers of datagrams that an act may need. Datagrams are numbered up to 65535.
abbrev pub needs : Act → ℕ
needs Act.Tick = 10
needs (Act.Window number window) = 0
needs (Act.Damage k at mask) = 0
needs _ = 1

abbrev pub is_idle : ClientState → Bool
is_idle Idle = true
is_idle _ = false

abbrev pub state_at : Option Side → ClientState
state_at side = option_map_or (λ s. s.client.state) side Idle

abbrev pub if_idle : Option Side → Option StepFault
if_idle side = if is_idle (state_at side) then Some NotOpen else None

-- why an act is refused, except that numbers ran out
abbrev pub named_fault : World → Act → Option StepFault
named_fault w (Act.Opens number) = if is_idle (state_at (numbered w.sides number)) then None else Some AlreadyOpen
named_fault w (Act.Again number) = if_idle (numbered w.sides number)
named_fault w (Act.Closes number) = if_idle (numbered w.sides number)
named_fault w (Act.Aborts number) = if_idle (numbered w.sides number)
named_fault w (Act.Give k) = option_map_or (λ e. None) (numbered w.sent k) (Some NoDatagram)
named_fault w (Act.Damage k at mask) =
    option_map_or (λ e. if nat_lt at (length (sent_bytes w e)) then None else Some NoByte) (numbered w.sent k) (Some NoDatagram)
named_fault w _ = None

-- why an act is refused, if it is
abbrev pub fault_of : World → Act → Option StepFault
fault_of w act = option_or (named_fault w act) (if nat_lt 65535 (length w.sent + needs act) then Some Full else None)

-- one act
abbrev pub acts : AppSpec → (ℕ → Bool) → World → Act → Result World StepFault
acts m served w act = option_map_or Err (fault_of w act) (Ok (does m served w act))

-- acts in order, up to the first that is refused
abbrev pub runs : AppSpec → (ℕ → Bool) → List Act → World → Result World StepFault
runs m served [] w = Ok w
runs m served (act ∷ more) w = acts m served w act >>= runs m served more
