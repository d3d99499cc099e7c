-- The names of the definitions of this crate that other files cite, passed on from one place. Declares nothing.
pub use Rattle.uip_edge.specs.Causes.{HasCause, IsUnfailed, Rose}
pub use Rattle.uip_edge.specs.Coming.{Consumes, CountFits, IsAtEnd, TookAll, bytes_among, items_of}
pub use Rattle.uip_edge.specs.Ending.{EndsBy, WrittenBy}
pub use Rattle.uip_edge.specs.Memory.{byte_run}
pub use Rattle.uip_edge.specs.Shelving.{Files, HasShelfCause, HeldFile, IsMissing, Reads, ReadsFile}
pub use Rattle.uip_edge.specs.Turns.{IfTook, TurnFits, TurnsBy}
pub use Rattle.uip_edge.specs.Views.{IsCalm, LineUnfailed, LineView, Outside, ShelfView, SinkView, WorkUnfailed, WorkView, line_in, work_in}
pub use Rattle.uip_edge.specs.ViewsOf.{line_view, outside, shelf_view, sink_view, work_view}
pub use Rattle.uip_edge.specs.Writing.{AppendsPrefix, BreaksOff, Writes, WritesAll, WritesEnd, WritesPrefix}
