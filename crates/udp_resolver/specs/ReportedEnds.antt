-- Which end is reported if nothing failed.
use Rattle.std.specs.Prelude.{◌≡◌, ◌<◌, ℕ, List, Some, length}
use Rattle.uip_edge.specs.Prelude.{Consumes}
use Rattle.uip_edge.specs.declared.item.Item.{Item}
use Rattle.uip_edge.specs.declared.serve_end.ServeEnd.{ServeEnd}
use Rattle.uip_edge.specs.declared.serve_end.ServeEnd.TheVariants.{Budget, End}
use Rattle.udp_resolver.specs.Fates.{Question}
use Rattle.udp_resolver.specs.Resolving.{IsOpen, IsSettled, ResolvesBy}
use Rattle.udp_resolver.specs.Streams.{Streams, StreamsUnfailed}

-- The end, if all questions are settled.
abbrev pub SettledIsReported : Type 0
SettledIsReported =
    (asked : List Question) (n : ℕ) (old new : Streams) (taken : List Item) (end : ServeEnd) → ResolvesBy asked n old new taken end
    → StreamsUnfailed old new → IsSettled asked taken → end ≡ End

-- The end, if the link has fewer items than are allowed.
abbrev pub DryIsReported : Type 0
DryIsReported =
    (asked : List Question) (n : ℕ) (old new : Streams) (all taken : List Item) (end : ServeEnd) → ResolvesBy asked n old new taken end
    → StreamsUnfailed old new → old.line.link.coming ≡ Some all → length all < n
    → Consumes old.line.link.coming new.line.link.coming taken → end ≡ End

-- The budget, if as many items were taken as were allowed and a question is open.
abbrev pub BudgetIsReported : Type 0
BudgetIsReported =
    (asked : List Question) (n : ℕ) (old new : Streams) (taken : List Item) (end : ServeEnd) → ResolvesBy asked n old new taken end
    → StreamsUnfailed old new → IsOpen asked taken → length taken ≡ n → end ≡ Budget
