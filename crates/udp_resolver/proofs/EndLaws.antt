-- Each end is reported if its cause holds and nothing failed.
use Rattle.udp_resolver.proofs.Prelude.{◌≡◌, ℕ, ◌<◌, ◌⊎◌, inl, inr, true, false, List, Option, Some, length, refl, sym, ◌∙◌, arith}
use Rattle.udp_resolver.proofs.Prelude.{Consumes, Item, ServeEnd, Question, ResolvesBy, IsDone, IsOpen, IsSettled, LinkFailed, OutFailed}
use Rattle.udp_resolver.proofs.Prelude.{ReportFailed, Streams, StreamsUnfailed, taken_within}
use Rattle.uip_edge.specs.declared.serve_end.ServeEnd.TheVariants as ends

clash : true ≡ false → ⊥
clash e = cc e

no_link : (asked : List Question) (n : ℕ) (old new : Streams) (taken : List Item) → LinkFailed asked n old new taken → StreamsUnfailed old new → ⊥
no_link asked n old new taken f calm = omega (arith, f.rose, calm.line.link.same, calm.line.link.below)

no_write : (asked : List Question) (n : ℕ) (old new : Streams) (taken : List Item) → OutFailed asked old new taken
    ⊎ ReportFailed asked n old new taken → StreamsUnfailed old new → ⊥
no_write asked n old new taken (inl f) calm = omega (arith, f.out.rose, calm.line.sink.same, calm.line.sink.below)
no_write asked n old new taken (inr f) calm = omega (arith, f.reported.rose, calm.tell.same, calm.tell.below)

pub settled_reported : (asked : List Question) (n : ℕ) (old new : Streams) (taken : List Item) (end : ServeEnd) → ResolvesBy asked n old new taken end
    → StreamsUnfailed old new → IsSettled asked taken → end ≡ ends.End
settled_reported asked n old new taken ends.End e calm s = refl
settled_reported asked n old new taken ends.Budget e calm s = absurd (clash (sym s ∙ e.done.0))
settled_reported asked n old new taken ends.LinkFault e calm s = absurd (no_link asked n old new taken e calm)
settled_reported asked n old new taken ends.WriteFault e calm s = absurd (no_write asked n old new taken e calm)

pub dry_reported : (asked : List Question) (n : ℕ) (old new : Streams) (all taken : List Item) (end : ServeEnd) → ResolvesBy asked n old new taken end
    → StreamsUnfailed old new → old.line.link.coming ≡ Some all → length all < n → Consumes old.line.link.coming new.line.link.coming taken → end ≡ ends.End
dry_reported asked n old new all taken ends.End e calm reported short c = refl
dry_reported asked n old new all taken ends.Budget e calm reported short c =
    absurd (omega (arith, e.done.1, short, taken_within old.line.link.coming new.line.link.coming all taken reported c))
dry_reported asked n old new all taken ends.LinkFault e calm reported short c = absurd (no_link asked n old new taken e calm)
dry_reported asked n old new all taken ends.WriteFault e calm reported short c = absurd (no_write asked n old new taken e calm)

not_done : (asked : List Question) (n : ℕ) (coming : Option (List Item)) (taken : List Item) → IsDone asked n coming taken ends.End
    → IsOpen asked taken → length taken ≡ n → ⊥
not_done asked n coming taken (inl settled) is_open all = clash (sym settled ∙ is_open)
not_done asked n coming taken (inr dry) is_open all = omega (arith, dry.2, all)

pub budget_reported : (asked : List Question) (n : ℕ) (old new : Streams) (taken : List Item) (end : ServeEnd) → ResolvesBy asked n old new taken end
    → StreamsUnfailed old new → IsOpen asked taken → length taken ≡ n → end ≡ ends.Budget
budget_reported asked n old new taken ends.End e calm is_open all = absurd (not_done asked n old.line.link.coming taken e.done is_open all)
budget_reported asked n old new taken ends.Budget e calm is_open all = refl
budget_reported asked n old new taken ends.LinkFault e calm is_open all = absurd (no_link asked n old new taken e calm)
budget_reported asked n old new taken ends.WriteFault e calm is_open all = absurd (no_write asked n old new taken e calm)
