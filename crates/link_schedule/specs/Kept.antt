-- What holds for each schedule.
-- [add: schedule-line] What is always true of its numbers.
use Rattle.std.specs.Prelude.{◌≡◌, ℕ, ◌≤◌, ◌&&◌, nat_le, Bool, true, not, List, [], ◌∷◌, length}
use Rattle.std.specs.List.{list_all, list_any}
use Rattle.link_schedule.specs.declared.event.Event.{Event}
use Rattle.link_schedule.specs.declared.event.Event.TheVariants.{Opens, Again, Closes, Aborts, Window, Ping, Give}
use Rattle.link_schedule.specs.declared.event.Event.TheVariants.{Damage, Tick, Round, Twice, Reverse, Half, Lose}
use Rattle.link_schedule.specs.Clients.{Plan}
use Rattle.link_schedule.specs.Reading.{SchedulePlan, meets}

-- a number from a lowest to a highest
abbrev pub is_between : ℕ → ℕ → ℕ → Bool
is_between low high n = nat_le low n && nat_le n high

-- a port, a segment's text and a request of an allowed size
abbrev pub client_in_range : Plan → Bool
client_in_range plan =
    is_between 1 65535 plan.port.0 && is_between 1 1460 plan.seg && is_between 1 4096 (length plan.request)

-- each client is one of this number, and each other number has an allowed size
abbrev pub event_in_range : ℕ → Event → Bool
event_in_range clients (Opens c) = is_between 1 clients c
event_in_range clients (Again c) = is_between 1 clients c
event_in_range clients (Closes c) = is_between 1 clients c
event_in_range clients (Aborts c) = is_between 1 clients c
event_in_range clients (Window c w) = is_between 1 clients c
event_in_range clients (Ping source) = true
event_in_range clients (Give k) = true
event_in_range clients (Damage k i x) = is_between 1 255 x
event_in_range clients (Tick n) = is_between 1 300 n
event_in_range clients Round = true
event_in_range clients Twice = true
event_in_range clients Reverse = true
event_in_range clients Half = true
event_in_range clients Lose = true

-- no two clients have one address and port
abbrev pub are_apart : List Plan → Bool
are_apart [] = true
are_apart (plan ∷ plans) = not (list_any (λ later. meets plan later) plans) && are_apart plans

pub record Keeps (content : SchedulePlan) : Type 0 where
  pub few : length content.clients ≤ 64
  pub apart : are_apart content.clients ≡ true
  pub clients_in_range : list_all client_in_range content.clients ≡ true
  pub lines_in_range : list_all (λ line. event_in_range (length content.clients) line.event) content.lines ≡ true
