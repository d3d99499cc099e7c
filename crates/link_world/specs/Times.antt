-- What holds between a world and a later one, and invariants of the numbers of each world.
use Rattle.std.specs.Prelude.{◌≡◌, ◌+◌, ◌≤◌, ◌⊎◌, All, Bool, false, length, List, map, None, Ok, slice_get, Some, suc, true, ℕ}
use Rattle.uip_wire.specs.declared.addr.Addr.{Addr}
use Rattle.tcp_segment.specs.Prelude.{PlainSegment, has_rst, has_ack}
use Rattle.app_events.specs.Prelude.{AppSpec, Pages, IsPaged}
use Rattle.tcp_machine.specs.Prelude.{is_live}
use Rattle.link_world.specs.World.{World, Side, Sent, epoch, is_clean}
use Rattle.link_world.specs.World.Content.{OfSegment}
use Rattle.link_world.specs.Bytes.{sent_bytes}
use Rattle.link_world.specs.Acts.{runs}
use Rattle.link_world.specs.History.{Planned, initial_world, planned_of}
use Rattle.link_world.specs.Schedule.{plays}
use Rattle.link_schedule.specs.declared.event.Event.{Event}
use Rattle.link_world.specs.declared.act.Act.{Act}
use Rattle.link_world.specs.declared.who.Who.TheVariants.{FromClient}
use Rattle.uip_node.specs.Prelude.{HasBytes}
use Rattle.link_world.specs.Headline.{IsAct, IsPlainAct, IsReached, IsSchedulePlayed, server_side}

-- A world that is reached, and one that further acts reach from it, each act accepted.
pub record IsLater (m : AppSpec) (pages : Pages) (v w : World) : Type 0 where
  pub reached : IsReached m pages v
  pub more : List Act
  pub are_acts : All IsAct more
  pub bytes : HasBytes pages ⊎ All IsPlainAct more
  pub accepted : runs m reached.served more v ≡ Ok w

-- One connection per epoch: while the epoch of a client is the same, its live connection stays live, with the same ISS.
abbrev pub OneConnection : Type 0
OneConnection =
    (m : AppSpec) (pages : Pages) → IsPaged m pages → (v w : World) → IsLater m pages v w →
    (k : ℕ) (a b : Side) → slice_get v.sides k ≡ Some a → slice_get w.sides k ≡ Some b → epoch a ≡ epoch b
    → is_live (server_side v a).state ≡ true →
    (is_live (server_side w b).state ≡ true) × ((server_side w b).iss ≡ (server_side v a).iss)

-- Acknowledged later: every acknowledgement of a client without RST is sent after every world in which it was clean and had not opened.
abbrev pub AcknowledgedLater : Type 0
AcknowledgedLater =
    (m : AppSpec) (pages : Pages) → IsPaged m pages → (v w : World) → IsLater m pages v w →
    (k : ℕ) (a b : Side) → slice_get v.sides k ≡ Some a → slice_get w.sides k ≡ Some b → is_clean a ≡ true → a.opened ≡ None →
    (i : ℕ) (e : Sent) (id : ℕ) (s : PlainSegment) → slice_get w.sent i ≡ Some e → e.who ≡ FromClient (suc k) → e.content ≡ OfSegment id s →
    has_rst s.flags ≡ false → has_ack s.flags ≡ true → length v.sent ≤ i

-- The CLOSED connections of a client, and the live one, are no more than the datagrams sent.
pub record HasFewEpochs (w : World) (side : Side) : Type 0 where
  pub history : epoch side ≤ length w.sent
  pub live : is_live (server_side w side).state ≡ true → epoch side + 1 ≤ length w.sent

abbrev pub EpochsAreFew : Type 0
EpochsAreFew =
    (m : AppSpec) (pages : Pages) → IsPaged m pages → (w : World) → IsReached m pages w →
    (k : ℕ) (side : Side) → slice_get w.sides k ≡ Some side → HasFewEpochs w side

-- The mark is at most the number of datagrams.
abbrev pub MarkIsLow : Type 0
MarkIsLow = (m : AppSpec) (pages : Pages) (w : World) → IsSchedulePlayed m pages w → w.mark ≤ length w.sent

-- Each datagram has at least one byte.
abbrev pub NoneIsEmpty : Type 0
NoneIsEmpty =
    (m : AppSpec) (pages : Pages) → IsPaged m pages → HasBytes pages → (w : World) → IsReached m pages w →
    (k : ℕ) (e : Sent) → slice_get w.sent k ≡ Some e → 1 ≤ length (sent_bytes w e)

-- As planned: the clients of a world are those of its plan, in order, with their setups and requests.
pub record KeepsPlan (m : AppSpec) (served : ℕ → Bool) (addr : Addr) (numbers : List ℕ) (plan : List Planned) (w : World) : Type 0 where
  pub by_acts : (schedule : List Act) → runs m served schedule (initial_world addr numbers plan) ≡ Ok w → map planned_of w.sides ≡ plan
  pub by_lines : (lines : List Event) → plays m served lines (initial_world addr numbers plan) ≡ Ok w → map planned_of w.sides ≡ plan

abbrev pub SidesAsPlanned : Type 0
SidesAsPlanned = (m : AppSpec) (served : ℕ → Bool) (addr : Addr) (numbers : List ℕ) (plan : List Planned) (w : World)
    → KeepsPlan m served addr numbers plan w
