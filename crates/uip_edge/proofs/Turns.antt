-- Turns at a line, one after the other.
use Rattle.uip_edge.proofs.Prelude.{◌≡◌, ℕ, ◌+◌, ◌<◌, ◌≤◌, List, ◌++◌, length, map, take, ◌∙◌, arith, length-append, length-map}
use Rattle.uip_edge.proofs.Prelude.{length-take-le, Item, Byte, ServeEnd, Ended, Consumes, EndsBy, IsCalm, LineView, TurnsBy}
use Rattle.uip_edge.specs.declared.serve_end.ServeEnd.TheVariants as ends
use Rattle.uip_edge.proofs.Reported.{none_more, took_all}

-- how many items the bytes of a call are
pub counted : (n : ℕ) (buf : List ℕ) → n ≤ length buf → length (map Byte (take n buf)) ≡ n
counted n buf h = rw length-map (length-take-le n buf h)

-- neither count rose, and then neither did
pub calm_then : (old mid new : LineView) → IsCalm old mid → IsCalm mid new → IsCalm old new
calm_then old mid new a b = record { link = b.link ∙ a.link; sink = b.sink ∙ a.sink }

-- the cause of the end that a turn reports, after the items that were taken before
pub ends_by : (n : ℕ) (taken items : List Item) (old mid new : LineView) (end : ServeEnd)
    → Consumes old.link.coming mid.link.coming taken → length taken < n → length items + length taken ≤ n
    → IsCalm old mid → TurnsBy mid new items (Ended end) → EndsBy n old new (taken ++ items) end
ends_by n taken items old mid new ends.End c below fits calm t =
    rw (none_more taken items t.0) (took_all _ _ taken c t.1, below, t.2.link ∙ calm.link, t.2.sink ∙ calm.sink)
ends_by n taken items old mid new ends.LinkFault c below fits calm t =
    rw (none_more taken items t.0) (below, rw calm.link at t.1, t.2 ∙ calm.sink)
ends_by n taken items old mid new ends.WriteFault c below fits calm t =
    (omega (arith, length-append taken items), t.0 ∙ calm.link, rw calm.sink at t.1)
ends_by n taken items old mid new ends.Budget c below fits calm t = absurd t
