-- Serving by a node, from the initial one on.
-- [add: line-kind] A case for a further kind of line.
use Rattle.uipd.proofs.Prelude.{◌≡◌, ◌<◌, ℕ, Bool, List, [], ◌∷◌, ◌++◌, Option, length, refl, subst, sym, ap, ◌∙◌, inl, append_assoc}
use Rattle.uipd.proofs.Prelude.{AppSpec, Ghosts, Item, ServeEnd, WrittenBy, LineView, BreaksOff, breaks_prefix, breaks_whole, Node}
use Rattle.uipd.proofs.Prelude.{initial_node, Represents, Addr, ether_medium, Host, Act, Mac, MediumSpec, StationEvent, PrefixWritten}
use Rattle.uipd.proofs.Prelude.{Station, station_after, station_after_all, output, output_of_event, IsStationed, WrittenAtEnd, ServesOver}
use Rattle.uipd.proofs.Prelude.{station_events_of_line, initial_station, output_by, output-append, host_at, output_over, RunsBy}
use Rattle.uipd.proofs.Prelude.{status_of_serving, LineKind, Ethernet, ServedLine}
use Rattle.uip_edge.specs.declared.serve_end.ServeEnd.TheVariants as ends

-- the output was written by the end, and a write failed only where there is some
record PutsOut (end : ServeEnd) (a b : Option (List ℕ)) (text : List ℕ) : Type 0 where
  written : WrittenBy end a b text
  some : end ≡ ends.WriteFault → 0 < length text

module _ {C : Type 0} (m : AppSpec) (ports : ℕ → Bool) (own : Addr) (w : MediumSpec C) (station_events : List (StationEvent C))
    (s : Station C) (P Q : Station C → Type 0) (a b : Option (List ℕ)) (p : P s) where
  -- if it broke off, a prefix of the whole output was written
  prefix_written : PrefixWritten m ports w own station_events P Q a b → PutsOut ends.WriteFault a b (output m ports w own station_events s)
  prefix_written v =
      let it = v.each s p in
      let mid = station_after_all m ports it.done s in
      let before = output m ports w own it.done s in
      let text = output_of_event m ports w own mid it.last in
      let later = output m ports w own it.later (station_after m ports mid it.last) in
      let all : output m ports w own station_events s ≡ (before ++ text) ++ later =
      ap (λ (l : List (StationEvent C)). output m ports w own l s) it.split
      ∙ output-append m ports w own it.done (it.last ∷ it.later) s
      ∙ sym (append_assoc before text later) in
      let whole : BreaksOff [] (output m ports w own station_events s) a b = breaks_whole before text later _ a b all it.broke in
      record { written = breaks_prefix [] _ a b whole; some = λ same. whole.some }

  puts_out : (end : ServeEnd) → WrittenAtEnd end m ports w own station_events P Q a b → PutsOut end a b (output m ports w own station_events s)
  puts_out ends.End v = record { written = (v.each s p).1; some = λ e. absurd (cc e) }
  puts_out ends.Budget v = record { written = (v.each s p).1; some = λ e. absurd (cc e) }
  puts_out ends.LinkFault v = record { written = (v.each s p).1; some = λ e. absurd (cc e) }
  puts_out ends.WriteFault v = prefix_written v

-- what a node did that represents the initial one, over a line of a kind whose output is that of this medium
pub line_run : {A S C : Type 0} (g : Ghosts A S) (shared : S) (line : ServedLine) (kind : LineKind) (w : MediumSpec C)
    (before after : Node A S) (did did' : List C → Type 0) (old new : LineView) (end : ServeEnd)
    → ((m : AppSpec) (numbers : List ℕ) (items : List Item) → output_over kind m g.served numbers line.own line.limits.pace items
    ≡ output_by w m g.served numbers line.own line.limits.pace items)
    → before.shared ≡ shared → Represents g before (initial_node line.own (g.numbers shared)) [] → did []
    → ServesOver g w did did' line.limits.pace line.limits.items before after old new end
    → RunsBy (g.app_spec (g.config shared)) g.served (g.numbers shared) (record line { kind = kind }) old new (status_of_serving end)
line_run {S = S} {C = C} g shared line kind w before after did did' old new end same is st began it =
    let m : AppSpec = g.app_spec (g.config shared) in
    let numbers : List ℕ = g.numbers shared in
    let P : Station C → Type 0 = λ s. IsStationed g did before s in
    let Q : Station C → Type 0 = λ s. IsStationed g did' after s in
    let station_events : Addr → List (StationEvent C) = λ o. station_events_of_line w o line.limits.pace it.taken in
    let one = subst (λ (s : S). WrittenAtEnd end (g.app_spec (g.config s)) g.served w before.addr (station_events before.addr) P Q
    old.sink.written new.sink.written) is it.wrote in
    let two = subst (λ (o : Addr). WrittenAtEnd end m g.served w o (station_events o) P Q old.sink.written new.sink.written) st.addr one in
    let out = subst (PutsOut end old.sink.written new.sink.written) (sym (same m numbers it.taken))
    (puts_out m g.served line.own w (station_events line.own) (initial_station line.own numbers) P Q old.sink.written new.sink.written
    (record { represented = st; acted = began }) end two) in
    inl (end, refl, record { taken = it.taken; are = it.are; consumed = it.consumed; ends = it.ends; written = out.written; some = out.some })

-- so over Ethernet frames, by a host that is that of the line
pub ether_run : {A S : Type 0} (g : Ghosts A S) (shared : S) (line : ServedLine) (mac : Mac) (before after : Node A S) (h : Host)
    (did did' : List Act → Type 0) (old new : LineView) (end : ServeEnd)
    → before.shared ≡ shared → Represents g before (initial_node line.own (g.numbers shared)) [] → did [] → h ≡ host_at line.own mac
    → ServesOver g (ether_medium h) did did' line.limits.pace line.limits.items before after old new end
    → RunsBy (g.app_spec (g.config shared)) g.served (g.numbers shared) (record line { kind = Ethernet mac }) old new (status_of_serving end)
ether_run g shared line mac before after h did did' old new end is st began same it =
    line_run g shared line (Ethernet mac) (ether_medium (host_at line.own mac)) before after did did' old new end (λ m numbers items. refl) is st began
    (subst (λ (k : Host). ServesOver g (ether_medium k) did did' line.limits.pace line.limits.items before after old new end) same it)
