-- The turns of a serving, put together.
use Rattle.serve_loop.proofs.Prelude.{refl, sym, ◌≡◌, ℕ, ◌+◌, ◌<◌, ◌≤◌, Bool, List, [], ◌++◌, Option, Some, length, arith, All, All-append}
use Rattle.serve_loop.proofs.Prelude.{Addr, AppSpec, Ghosts, Item, ServeEnd, Consumes, bytes_among, Ended, Consumes-then, taken_within}
use Rattle.serve_loop.proofs.Prelude.{ends_by, Node, Pacer, IsItem, station_events_after, station_events_of_line, StationEvent, Station}
use Rattle.serve_loop.proofs.Prelude.{AllWritten, MediumSpec, IsStationed, WrittenAtEnd, ServesOver, IsHere, Turns, IsCalm, LineView}
use Rattle.serve_loop.proofs.Prelude.{LineUnfailed, EndsBy}
use Rattle.uip_edge.specs.declared.serve_end.ServeEnd.TheVariants as ends
use Rattle.line_medium.specs.declared.medium.Medium.{Ghosts as MediumGhosts}
use Rattle.serve_loop.proofs.EventLaws.{events-then}
use Rattle.serve_loop.proofs.RunLaws.{broke_by, broke_then, wrote_by, wrote_then}

-- what was written up to such an end
written_by : {C : Type 0} (m : AppSpec) (served : ℕ → Bool) (w : MediumSpec C) (own : Addr) (xs ys zs : List (StationEvent C))
    (P Q R : Station C → Type 0) (a b c : Option (List ℕ)) (end : ServeEnd)
    → zs ≡ xs ++ ys → AllWritten m served w own xs P Q a b → WrittenAtEnd end m served w own ys Q R b c → WrittenAtEnd end m served w own zs P R a c
written_by m served w own xs ys zs P Q R a b c ends.End e u v = wrote_by m served w own _ _ _ _ _ _ e (wrote_then m served w own xs ys P Q R a b c u v)
written_by m served w own xs ys zs P Q R a b c ends.LinkFault e u v = wrote_by m served w own _ _ _ _ _ _ e (wrote_then m served w own xs ys P Q R a b c u v)
written_by m served w own xs ys zs P Q R a b c ends.Budget e u v = wrote_by m served w own _ _ _ _ _ _ e (wrote_then m served w own xs ys P Q R a b c u v)
written_by m served w own xs ys zs P Q R a b c ends.WriteFault e u v = broke_by m served w own _ _ _ _ _ _ e (broke_then m served w own xs ys P Q R a b c u v)

-- an end without a fault is the link's, if fewer items are known than are allowed
pub end_reported : (n : ℕ) (old new : LineView) (all taken : List Item) (end : ServeEnd) → old.link.coming ≡ Some all → length all < n
    → Consumes old.link.coming new.link.coming taken → EndsBy n old new taken end → LineUnfailed old new → end ≡ ends.End
end_reported n old new all taken ends.End reported short c e calm = refl
end_reported n old new all taken ends.Budget reported short c e calm =
    absurd (omega (arith, taken_within old.link.coming new.link.coming all taken reported c, e.0, short))
end_reported n old new all taken ends.LinkFault reported short c e calm = absurd (omega (arith, e.1, calm.link.same, calm.link.below))
end_reported n old new all taken ends.WriteFault reported short c e calm = absurd (omega (arith, e.2, calm.sink.same, calm.sink.below))

module _ {A S : Type 0} (g : Ghosts A S) {C : Type 0} (w : MediumSpec C) where
  abbrev At : (List C → Type 0) → AppSpec → Addr → Node A S → Station C → Type 0
  At did m own node s = IsHere g did m own node s

  -- a node represents one in the public sense if it does with its specification and its address
  enters : (did : List C → Type 0) (node : Node A S) (s : Station C) → IsStationed g did node s → At did (g.app_spec (g.config node.shared)) node.addr node s
  enters did node s p = record { represented = record { meant = refl; address = sym p.represented.addr; represented = p.represented }; acted = p.acted }

  leaves : (did : List C → Type 0) (m : AppSpec) (own : Addr) (node : Node A S) (s : Station C) → At did m own node s → IsStationed g did node s
  leaves did m own node s p = record { represented = p.represented.represented; acted = p.acted }

  all_public : (did did' : List C → Type 0) (station_events : List (StationEvent C)) (before after : Node A S) (a b : Option (List ℕ))
      → AllWritten (g.app_spec (g.config before.shared)) g.served w before.addr station_events (At did (g.app_spec (g.config before.shared))
      before.addr before) (At did' (g.app_spec (g.config before.shared)) before.addr after) a b
      → AllWritten (g.app_spec (g.config before.shared)) g.served w before.addr station_events (IsStationed g did before) (IsStationed g did' after) a b
  all_public did did' station_events before after a b v = record {
    each = λ s p. let it = v.each s (enters did before s p) in
        (leaves did' _ _ after _ it.0, it.1);
  }

  public_wrote : (did did' : List C → Type 0) (end : ServeEnd) (station_events : List (StationEvent C)) (before after : Node A S) (a b : Option (List ℕ))
      → WrittenAtEnd end (g.app_spec (g.config before.shared)) g.served w before.addr station_events
      (At did (g.app_spec (g.config before.shared)) before.addr before) (At did' (g.app_spec (g.config before.shared)) before.addr after) a b
      → WrittenAtEnd end (g.app_spec (g.config before.shared)) g.served w before.addr station_events (IsStationed g did before) (IsStationed g did' after) a b
  public_wrote did did' ends.End station_events before after a b v = all_public did did' station_events before after a b v
  public_wrote did did' ends.Budget station_events before after a b v = all_public did did' station_events before after a b v
  public_wrote did did' ends.LinkFault station_events before after a b v = all_public did did' station_events before after a b v
  public_wrote did did' ends.WriteFault station_events before after a b v = record {
    each = λ s p.
        let it = v.each s (enters did before s p) in
        record { done = it.done; last = it.last; later = it.later; split = it.split; after = leaves did' _ _ after _ it.after; broke = it.broke };
  }

  -- the output continues with a turn
  pub on_wrote : (did did1 did2 : List C → Type 0) (pace : ℕ) (taken items : List Item) (start node node' : Node A S) (a b c : Option (List ℕ))
      → ((m : AppSpec) (own : Addr) → AllWritten m g.served w own (station_events_of_line w own pace taken) (At did m own start) (At did1 m own node) a b)
      → ((m : AppSpec) (own : Addr) → AllWritten m g.served w own (station_events_after w own pace (bytes_among taken) items)
      (At did1 m own node) (At did2 m own node') b c)
      → (m : AppSpec) (own : Addr) → AllWritten m g.served w own (station_events_of_line w own pace (taken ++ items)) (At did m own start)
      (At did2 m own node') a c
  on_wrote did did1 did2 pace taken items start node node' a b c v t m own =
      wrote_by m g.served w own _ _ _ _ _ _ (events-then w own pace [] taken items)
      (wrote_then m g.served w own (station_events_of_line w own pace taken) (station_events_after w own pace (bytes_among taken) items) _
      (At did1 m own node) _ _ b _ (v m own) (t m own))

  -- a serving that took all that it might
  pub spent : (did did1 : List C → Type 0) (pace n : ℕ) (taken : List Item) (start node : Node A S) (old new : LineView)
      → All IsItem taken → Consumes old.link.coming new.link.coming taken → length taken ≡ n → IsCalm old new
      → ((m : AppSpec) (own : Addr) → AllWritten m g.served w own (station_events_of_line w own pace taken) (At did m own start)
      (At did1 m own node) old.sink.written new.sink.written)
      → ServesOver g w did did1 pace n start node old new ends.Budget
  spent did did1 pace n taken start node old new is c all calm v = record {
    taken = taken;
    are = is;
    consumed = c;
    ends = (all, calm.link, calm.sink);
    wrote = public_wrote did did1 ends.Budget _ start node _ _ (v (g.app_spec (g.config start.shared)) start.addr);
  }

-- a serving that ends in a turn
module _ {A S M : Type 0} (g : Ghosts A S) (h : MediumGhosts M) (k : h.Config) (medium0 medium medium' : M) where
  abbrev w : MediumSpec h.Act
  w = h.spec k

  abbrev Here : M → AppSpec → Addr → Node A S → Station h.Act → Type 0
  Here x m own node s = IsHere g (h.did x k) m own node s

  pub stopped : (pace n : ℕ) (taken : List Item) (start node node' : Node A S) (old mid new : LineView) (pacer : Pacer) (room : ℕ) (end : ServeEnd)
      → All IsItem taken → Consumes old.link.coming mid.link.coming taken → length taken < n → room + length taken ≤ n → IsCalm old mid
      → ((m : AppSpec) (own : Addr) → AllWritten m g.served w own (station_events_of_line w own pace taken) (Here medium0 m own start)
      (Here medium m own node) old.sink.written mid.sink.written)
      → Turns g h k pace (bytes_among taken) medium medium' node node' mid new pacer room (Ended end)
      → ServesOver g w (h.did medium0 k) (h.did medium' k) pace n start node' old new end
  stopped pace n taken start node node' old mid new pacer room end is c below fits calm v t =
      let m = g.app_spec (g.config start.shared) in
      let own = start.addr in
      record {
        taken = taken ++ t.items;
        are = All-append IsItem taken t.items is t.are;
        consumed = Consumes-then _ _ _ taken t.items c t.consumed;
        ends = ends_by n taken t.items old mid new end c below (let within = t.within in omega arith) calm t.cause;
        wrote = public_wrote g w (h.did medium0 k) (h.did medium' k) end _ start node' _ _
            (written_by m g.served w own (station_events_of_line w own pace taken) (station_events_after w own pace (bytes_among taken) t.items) _
            (Here medium0 m own start) (Here medium m own node) (Here medium' m own node') old.sink.written mid.sink.written new.sink.written end
            (events-then w own pace [] taken t.items) (v m own) (t.wrote m own));
      }
