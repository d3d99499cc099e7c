-- A reader of a line that stopped among bytes.
use Rattle.trace.proofs.Prelude.{◌≡◌, ℕ, ◌+◌, ◌≤◌, List, ◌++◌, length, map, sym, ap, ◌∙◌, append_assoc, arith, length-append, subst}
use Rattle.trace.proofs.Prelude.{length-map, map-append, Consumes, Consumes-then, IsCalm, LineView, Item, Byte, StopsAmong, StopsRead}
use Rattle.trace.specs.declared.line_reader.LineReader.{Ghosts}

pub stops_read : {R S : Type 0} (g : Ghosts R S) (k : g.Config) (n : ℕ) (taken : List Item) (bytes : List ℕ) (old mid new : LineView) (reader : R) (stop : S)
    → Consumes old.link.coming mid.link.coming taken → Consumes mid.link.coming new.link.coming (map Byte bytes)
    → length taken + length bytes ≤ n → length bytes ≤ 4096 → IsCalm old mid → new.link.faults ≡ mid.link.faults
    → StopsAmong g k taken bytes mid.sink.faults new.sink reader stop → StopsRead g k n old new reader stop
stops_read g k n taken bytes old mid new reader stop c d within few calm same s =
    let all : taken ++ map Byte bytes ≡ (taken ++ map Byte s.prefix) ++ map Byte s.rest =
    ap (λ l. taken ++ map Byte l) s.pieces ∙ ap (λ l. taken ++ l) (map-append Byte s.prefix s.rest)
    ∙ sym (append_assoc taken (map Byte s.prefix) (map Byte s.rest)) in
    record {
      before = taken ++ map Byte s.prefix;
      bytes = s.rest;
      consumed = subst (λ (l : List Item). Consumes old.link.coming new.link.coming l) all (Consumes-then _ _ _ taken (map Byte bytes) c d);
      within = (let size = ap (λ (l : List Item). length l) all in omega (arith, size, length-append taken (map Byte bytes), length-map bytes Byte, within));
      soon = (let size = ap (λ (l : List ℕ). length l) s.pieces in omega (arith, size, length-append s.prefix s.rest, few));
      calm = same ∙ calm.link;
      stopped = subst (λ (f : ℕ). g.stopped reader k stop (taken ++ map Byte s.prefix) s.rest f new.sink) calm.sink s.stopped;
    }
