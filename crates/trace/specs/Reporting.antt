-- What a call that reports a serial line has consumed and written, and how it ends.
use Rattle.std.specs.Prelude.{◌≡◌, ◌<◌, ℕ, List, length}
use Rattle.uip_edge.specs.Prelude.{Consumes, LineView, EndsBy, WrittenBy}
use Rattle.uip_edge.specs.declared.item.Item.{Item}
use Rattle.uip_edge.specs.declared.serve_end.ServeEnd.{ServeEnd}
use Rattle.uip_edge.specs.declared.serve_end.ServeEnd.TheVariants.{WriteFault}

-- A line was reported, up to n items. There are items that the link lost, if they are known; the end has its cause, and the
-- text of these items was written. A write fails only if there is something to write.
pub record ReportsLine (text : List Item → List ℕ) (n : ℕ) (old new : LineView) (result : ServeEnd) : Type 0 where
  pub taken : List Item
  pub consumed : Consumes old.link.coming new.link.coming taken
  pub ends : EndsBy n old new taken result
  pub wrote : WrittenBy result old.sink.written new.sink.written (text taken)
  pub some : result ≡ WriteFault → 0 < length (text taken)
