-- The worlds that a replay reaches, and what an act of the code does.
-- [add: act] What the code does at it.
use Rattle.std.specs.Prelude.{◌≡◌, ◌<◌, ◌≤◌, ◌∷◌, ◌++◌, All, Bool, Err, length, List, Ok, Result, Some, ℕ, ⊤}
use Rattle.app_events.specs.Prelude.{AppSpec, Pages, IsPaged}
use Rattle.link_world.specs.Prelude.{World, Sent, numbered, sent_bytes, acts, does, runs, Start, started, CountsBy, IsAct, IsLoss}
use Rattle.link_world.specs.declared.act.Act.{Act}
use Rattle.link_world.specs.declared.step_fault.StepFault.{StepFault}
use Rattle.link_world.specs.declared.step_fault.StepFault.TheVariants.{NoDatagram, NoByte, AlreadyOpen, NotOpen, Full, NoMemory}
use Rattle.uip_node.specs.Prelude.{HasBytes}

-- A world that accepted acts reach from the initial one, with a server whose pages are bytes.
pub record IsReachedBy (m : AppSpec) (served : ℕ → Bool) (w : World) : Type 0 where
  pub pages : Pages
  pub lawful : IsPaged m pages
  pub bytes : HasBytes pages
  pub start : Start
  pub schedule : List Act
  pub are_acts : All IsAct schedule
  pub accepted : runs m served schedule (started start) ≡ Ok w

-- The same, whatever its mark: no act depends on the mark.
abbrev pub IsAt : AppSpec → (ℕ → Bool) → World → Type 0
IsAt m served w = IsReachedBy m served (record w { mark = 0 })

-- a refusal with a named reason, which out of memory is not
abbrev pub IsNamed : StepFault → Type 0
IsNamed NoMemory = ⊥
IsNamed NoDatagram = ⊤
IsNamed NoByte = ⊤
IsNamed AlreadyOpen = ⊤
IsNamed NotOpen = ⊤
IsNamed Full = ⊤

-- The world of the code represents the intended one, or the one before if the act is refused. If memory ran out, nothing is stated.
abbrev pub ActSteps : (World → Type 0) → World → Result (Unit {0}) StepFault → Result World StepFault → Type 0
ActSteps Now before (Ok done) meant = (w : World) × (meant ≡ Ok w) × Now w
ActSteps Now before (Err NoMemory) meant = ⊤
ActSteps Now before (Err NoDatagram) meant = (meant ≡ Err NoDatagram) × Now before
ActSteps Now before (Err NoByte) meant = (meant ≡ Err NoByte) × Now before
ActSteps Now before (Err AlreadyOpen) meant = (meant ≡ Err AlreadyOpen) × Now before
ActSteps Now before (Err NotOpen) meant = (meant ≡ Err NotOpen) × Now before
ActSteps Now before (Err Full) meant = (meant ≡ Err Full) × Now before

-- Acts in order: the world of the code represents the one reached, or an act is refused.
abbrev pub ActsEnd : (World → Type 0) → Result (Unit {0}) StepFault → Result World StepFault → Type 0
ActsEnd Now (Ok done) meant = (w : World) × (meant ≡ Ok w) × Now w
ActsEnd Now (Err NoMemory) meant = ⊤
ActsEnd Now (Err NoDatagram) meant = meant ≡ Err NoDatagram
ActsEnd Now (Err NoByte) meant = meant ≡ Err NoByte
ActsEnd Now (Err AlreadyOpen) meant = meant ≡ Err AlreadyOpen
ActsEnd Now (Err NotOpen) meant = meant ≡ Err NotOpen
ActsEnd Now (Err Full) meant = meant ≡ Err Full

-- Acts in order stopped before one of them. The world of the code represents the one that the acts before it reach.
pub record StopsAt (m : AppSpec) (served : ℕ → Bool) (Now : World → Type 0) (all : List Act) (w : World) (fault : StepFault) : Type 0 where
  pub before : List Act
  pub act : Act
  pub after : List Act
  pub joined : before ++ act ∷ after ≡ all
  pub world : World
  pub reached : runs m served before w ≡ Ok world
  pub refused : acts m served world act ≡ Err fault
  pub now : Now world

abbrev pub Stops : AppSpec → (ℕ → Bool) → (World → Type 0) → List Act → World → Result (Unit {0}) StepFault → Type 0
Stops m served Now all w (Ok done) = ⊤
Stops m served Now all w (Err NoMemory) = ⊤
Stops m served Now all w (Err NoDatagram) = StopsAt m served Now all w NoDatagram
Stops m served Now all w (Err NoByte) = StopsAt m served Now all w NoByte
Stops m served Now all w (Err AlreadyOpen) = StopsAt m served Now all w AlreadyOpen
Stops m served Now all w (Err NotOpen) = StopsAt m served Now all w NotOpen
Stops m served Now all w (Err Full) = StopsAt m served Now all w Full

-- Damage is a loss in the worlds of a replay. It changes no client, no connection and no list. If the damaged datagram was sent to the
-- node, the node counts one refused datagram.
abbrev pub DamageLoses : Type 0
DamageLoses =
    (m : AppSpec) (served : ℕ → Bool) (w : World) → IsAt m served w →
    (k at mask : ℕ) (e : Sent) → numbered w.sent k ≡ Some e → at < length (sent_bytes w e) → 1 ≤ mask → mask < 256 →
    IsLoss w (does m served w (Act.Damage k at mask)) × CountsBy e.who w (does m served w (Act.Damage k at mask))
