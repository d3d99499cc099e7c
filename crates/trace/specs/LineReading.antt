-- What a reader of a line has consumed when its reading ends.
use Rattle.std.specs.Prelude.{◌≡◌, ◌≤◌, ℕ, List, ◌++◌, map, length, Result, Ok, Err}
use Rattle.uip_edge.specs.Prelude.{Consumes, EndsBy, LineView, SinkView}
use Rattle.uip_edge.specs.declared.item.Item.{Item}
use Rattle.uip_edge.specs.declared.item.Item.TheVariants.{Byte}
use Rattle.uip_edge.specs.declared.serve_end.ServeEnd.{ServeEnd}
use Rattle.uip_edge.specs.declared.serve_end.ServeEnd.TheVariants.{WriteFault}
use Rattle.trace.specs.declared.line_reader.LineReader.{Ghosts}

-- the reader stopped among these bytes: after a prefix of them, which it had consumed
pub record StopsAmong {R S : Type 0} (g : Ghosts R S) (k : g.Config) (before : List Item) (bytes : List ℕ) (faults : ℕ)
    (new : SinkView) (reader : R) (stop : S) : Type 0 where
  pub prefix : List ℕ
  pub rest : List ℕ
  pub pieces : bytes ≡ prefix ++ rest
  pub stopped : g.stopped reader k stop (before ++ map Byte prefix) rest faults new

-- The line ended: there are items that the link lost, if they are known; the reader consumed them, and the end has its cause.
pub record EndsRead {R S : Type 0} (g : Ghosts R S) (k : g.Config) (n : ℕ) (old new : LineView) (reader : R) (end : ServeEnd) : Type 0 where
  pub taken : List Item
  pub consumed : Consumes old.link.coming new.link.coming taken
  pub ends : EndsBy n old new taken end
  pub written : end ≡ WriteFault → ⊥
  pub ready : g.ready reader
  pub took : g.took reader k taken new.sink.written

-- the reader stopped: it consumed the items before, and the bytes after them came in one read of the link
pub record StopsRead {R S : Type 0} (g : Ghosts R S) (k : g.Config) (n : ℕ) (old new : LineView) (reader : R) (stop : S) : Type 0 where
  pub before : List Item
  pub bytes : List ℕ
  pub consumed : Consumes old.link.coming new.link.coming (before ++ map Byte bytes)
  pub within : length (before ++ map Byte bytes) ≤ n
  pub soon : length bytes ≤ 4096
  pub calm : new.link.faults ≡ old.link.faults
  pub stopped : g.stopped reader k stop before bytes old.sink.faults new.sink

-- a line was read, up to n items
abbrev pub ReadsLine : {R S : Type 0} (g : Ghosts R S) (k : g.Config) → ℕ → LineView → LineView → R → Result ServeEnd S → Type 0
ReadsLine g k n old new reader (Ok end) = EndsRead g k n old new reader end
ReadsLine g k n old new reader (Err stop) = StopsRead g k n old new reader stop
