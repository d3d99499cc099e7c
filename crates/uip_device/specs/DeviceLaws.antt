-- What the laws of a device state.
use Rattle.std.specs.Prelude.{◌≡◌, [], All, Bool, List, None, ℕ}
use Rattle.app_events.specs.Prelude.{AppSpec, IsAddr, IsPaged, IsU32, Pages}
use Rattle.app_events.specs.declared.app.App.{Ghosts}
use Rattle.uip_edge.specs.declared.item.Item.{Item}
use Rattle.uip_node.specs.Prelude.{HasBytes, initial_node}
use Rattle.uip_wire.specs.declared.addr.Addr.{Addr}
use Rattle.serve_loop.specs.Prelude.{line_events, output_by, slip_medium}
use Rattle.guarded_node.specs.Arrivals.{guarded_events, guarded_run}
use Rattle.guarded_node.specs.declared.guard.Rules.{Rules}
use Rattle.uip_device.specs.Calls.{arrivals_after}
use Rattle.uip_device.specs.Sending.{text_sent}
use Rattle.uip_device.specs.Devices.{Answered, AnswersAll, IsFreshDevice, lefts_of, line_handed, moves_of}
use Rattle.uip_device.specs.Keeping.{CallsConform, IsOfBytes, KeepsU32}
use Rattle.uip_device.specs.Moves.{Bring, Writing}
use Rattle.uip_device.specs.declared.device.Device.{Device}

-- All calls of a fresh device conform, with any values set between, if the output of its application is a page of bytes. The calls bring
-- any bytes.
abbrev pub EveryCallConforms : {A S : Type 0} → Ghosts A S → Type 0
EveryCallConforms {A = A} {S = S} g =
    (m : AppSpec) (pages : Pages) → IsPaged m pages → HasBytes pages → (gives : Writing) → KeepsU32 gives
    → (numbers : List ℕ) → All IsU32 numbers → (own : Addr) → IsAddr own → (rules : Rules) → (all : List Answered)
    → All IsOfBytes (moves_of all) → (old new : Device A S) → IsFreshDevice g m numbers own rules old → (answered : AnswersAll g gives all old new)
    → CallsConform m pages g.served gives numbers rules own all (lefts_of g gives all old new answered)

-- What was returned is the text of what the guarded node sends for the items of a line at a pace. If there is no secret, and the guard
-- neither drops nor gives up anything for these items, it is what the server of a serial line writes for them.
pub record LineIsServed (m : AppSpec) (served : ℕ → Bool) (numbers : List ℕ) (own : Addr) (rules : Rules) (pace : ℕ) (items : List Item)
    (handed : List ℕ) : Type 0 where
  pub sent : handed ≡ text_sent rules.key own (guarded_run rules m served (arrivals_after pace [] items) (initial_node own numbers)).sent
  pub same : rules.key ≡ None
      → guarded_events rules m served (arrivals_after pace [] items) (initial_node own numbers) ≡ line_events own pace items
      → handed ≡ output_by slip_medium m served numbers own pace items

-- If the calls of a fresh device bring the items of a line at a pace, and no output is pending at the end, they returned so.
abbrev pub EveryLineIsServed : {A S : Type 0} → Ghosts A S → Type 0
EveryLineIsServed {A = A} {S = S} g =
    (m : AppSpec) (gives : Writing) (numbers : List ℕ) (own : Addr) (rules : Rules) (pace : ℕ) (items : List Item) (all : List Answered)
    (old new : Device A S) → IsFreshDevice g m numbers own rules old → Bring pace items (moves_of all) → AnswersAll g gives all old new
    → new.left ≡ None → LineIsServed m g.served numbers own rules pace items (line_handed all)
