-- What the calls that serve a line over a medium do, for any configuration of the medium.
use Rattle.std.specs.Prelude.{◌≡◌, ◌<◌, ℕ, List, [], Some, length}
use Rattle.app_events.specs.declared.app.App.{Ghosts}
use Rattle.uip_edge.specs.declared.item.Item.{Item}
use Rattle.uip_edge.specs.declared.serve_end.ServeEnd.{ServeEnd}
use Rattle.uip_edge.specs.declared.serve_end.ServeEnd.TheVariants.{Budget, End}
use Rattle.uip_edge.specs.declared.turn.Turn.{Turn}
use Rattle.uip_edge.specs.Prelude.{Consumes, EndsBy, LineUnfailed, LineView}
use Rattle.uip_node.specs.Prelude.{Node}
use Rattle.line_medium.specs.declared.medium.Medium.{Ghosts as MediumGhosts}
use Rattle.serve_loop.specs.declared.pacer.Pacer.{Pacer}
use Rattle.serve_loop.specs.StationServing.{ServesOver}
use Rattle.serve_loop.specs.Turns.{HasTaken, Turns}

-- A medium that was fed nothing serves a line at a pace, up to n items.
abbrev pub ServesFresh : {A S M : Type 0} (g : Ghosts A S) (h : MediumGhosts M) → M → M → ℕ → ℕ
    → Node A S → Node A S → LineView → LineView → ServeEnd → Type 0
ServesFresh g h medium medium' pace n node node' old new end =
    (k : h.Config) → h.fed medium k [] → ServesOver g (h.spec k) (h.did medium k) (h.did medium' k) pace n node node' old new end

-- So does one at the pace of this pacer, which has passed nothing.
abbrev pub ServesPaced : {A S M : Type 0} (g : Ghosts A S) (h : MediumGhosts M) → Pacer → M → M → ℕ
    → Node A S → Node A S → LineView → LineView → ServeEnd → Type 0
ServesPaced g h pacer medium medium' n node node' old new end =
    (k : h.Config) (pace : ℕ) → HasTaken pace [] (h.fed medium k) pacer
    → ServesOver g (h.spec k) (h.did medium k) (h.did medium' k) pace n node node' old new end

-- A turn at a line, after any bytes that it has consumed.
abbrev pub TakesTurn : {A S M : Type 0} (g : Ghosts A S) (h : MediumGhosts M) → M → M → Pacer → Pacer
    → Node A S → Node A S → LineView → LineView → ℕ → Turn ServeEnd → Type 0
TakesTurn g h medium medium' pacer pacer' node node' old new room turn =
    (k : h.Config) (pace : ℕ) (before : List ℕ) → HasTaken pace before (h.fed medium k) pacer
    → Turns g h k pace before medium medium' node node' old new pacer' room turn

-- The end is `Budget` if as many items were consumed as were allowed and nothing failed.
abbrev pub BudgetIsReported : Type 0
BudgetIsReported =
    (n : ℕ) (old new : LineView) (taken : List Item) (end : ServeEnd) → EndsBy n old new taken end
    → length taken ≡ n → LineUnfailed old new → end ≡ Budget

-- The end is `End` if the link had fewer items than were allowed and nothing failed.
abbrev pub EndIsReported : Type 0
EndIsReported =
    (n : ℕ) (old new : LineView) (all taken : List Item) (end : ServeEnd) → old.link.coming ≡ Some all → length all < n
    → Consumes old.link.coming new.link.coming taken → EndsBy n old new taken end → LineUnfailed old new → end ≡ End
