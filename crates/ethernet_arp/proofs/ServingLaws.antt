-- Serving a line, restated for other predicates on its medium's events.
use Rattle.ethernet_arp.proofs.Prelude.{ℕ, Bool, List, Option, AppSpec, Ghosts, ServeEnd, Addr, Node, MediumSpec, AllWritten, StationEvent}
use Rattle.ethernet_arp.proofs.Prelude.{PrefixWritten, Station, IsStationed, WrittenAtEnd, ServesOver, LineView}
use Rattle.uip_edge.specs.declared.serve_end.ServeEnd.TheVariants as ends

module _ {A S C : Type 0} (g : Ghosts A S) (w : MediumSpec C) (did did' reported reported' : List C → Type 0) (before after : Node A S)
    (first : (acts : List C) → reported acts → did acts) (last : (acts : List C) → did' acts → reported' acts) where
  starts : (s : Station C) → IsStationed g reported before s → IsStationed g did before s
  starts s p = record { represented = p.represented; acted = first s.acts p.acted }

  stops : (s : Station C) → IsStationed g did' after s → IsStationed g reported' after s
  stops s p = record { represented = p.represented; acted = last s.acts p.acted }

  all_reported : (m : AppSpec) (served : ℕ → Bool) (own : Addr) (station_events : List (StationEvent C)) (a b : Option (List ℕ))
      → AllWritten m served w own station_events (IsStationed g did before) (IsStationed g did' after) a b
      → AllWritten m served w own station_events (IsStationed g reported before) (IsStationed g reported' after) a b
  all_reported m served own station_events a b v = record { each = λ s p. let it = v.each s (starts s p) in (stops _ it.0, it.1) }

  prefix_reported : (m : AppSpec) (served : ℕ → Bool) (own : Addr) (station_events : List (StationEvent C)) (a b : Option (List ℕ))
      → PrefixWritten m served w own station_events (IsStationed g did before) (IsStationed g did' after) a b
      → PrefixWritten m served w own station_events (IsStationed g reported before) (IsStationed g reported' after) a b
  prefix_reported m served own station_events a b v = record {
    each = λ s p.
        let it = v.each s (starts s p) in
        record { done = it.done; last = it.last; later = it.later; split = it.split; after = stops _ it.after; broke = it.broke };
  }

  reported_by : (end : ServeEnd) (m : AppSpec) (served : ℕ → Bool) (own : Addr) (station_events : List (StationEvent C)) (a b : Option (List ℕ))
      → WrittenAtEnd end m served w own station_events (IsStationed g did before) (IsStationed g did' after) a b
      → WrittenAtEnd end m served w own station_events (IsStationed g reported before) (IsStationed g reported' after) a b
  reported_by ends.End m served own station_events a b v = all_reported m served own station_events a b v
  reported_by ends.Budget m served own station_events a b v = all_reported m served own station_events a b v
  reported_by ends.LinkFault m served own station_events a b v = all_reported m served own station_events a b v
  reported_by ends.WriteFault m served own station_events a b v = prefix_reported m served own station_events a b v

  pub serves_reported : (pace n : ℕ) (old new : LineView) (end : ServeEnd) → ServesOver g w did did' pace n before after old new end
      → ServesOver g w reported reported' pace n before after old new end
  serves_reported pace n old new end v = record {
    taken = v.taken;
    are = v.are;
    consumed = v.consumed;
    ends = v.ends;
    wrote = reported_by end _ _ _ _ _ _ v.wrote;
  }
