use Rattle.trace.proofs.Prelude.{◌≡◌, ◌≤◌, ◌+◌, [], List, length, Consumes, Item, line_view, IsCalm}
use Rattle.trace.proofs.line_loop.read_line.Given as goal

abbrev pub invariant-loop-left : goal.invariant-loop-left
invariant-loop-left g l = record {
  ready : g.R.LineReader.ready l.reader;
  counted : g.R.LineReader.counted l.reader + l.left ≤ l.items;
  taken : List Item;
  consumed : Consumes (g.L.Link.coming l.fn.link) (g.L.Link.coming l.link) taken;
  number : length taken + l.left ≡ l.items;
  took : (k : g.R.LineReader.Config) → g.R.LineReader.took l.fn.reader k [] (g.K.Sink.written l.fn.sink)
      → g.R.LineReader.took l.reader k taken (g.K.Sink.written l.sink);
  calm : IsCalm (line_view g.L.Link g.K.Sink l.fn.link l.fn.sink) (line_view g.L.Link g.K.Sink l.link l.sink);
}

abbrev pub decreases-loop-left : goal.decreases-loop-left
decreases-loop-left g l = l.left
