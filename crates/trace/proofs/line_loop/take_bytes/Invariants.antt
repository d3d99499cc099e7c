use Rattle.trace.proofs.Prelude.{◌≡◌, ◌≤◌, ◌+◌, ◌++◌, List, ℕ, length, map, Item, Byte}
use Rattle.trace.proofs.line_loop.take_bytes.Given as goal

abbrev pub invariant-loop-rest : goal.invariant-loop-rest
invariant-loop-rest g l = record {
  prefix : List ℕ;
  pieces : l.bytes ≡ prefix ++ l.rest;
  ready : g.R.LineReader.ready l.reader;
  counted : g.R.LineReader.counted l.reader ≤ g.R.LineReader.counted l.fn.reader + length prefix;
  took : (k : g.R.LineReader.Config) (before : List Item) → g.R.LineReader.took l.fn.reader k before (g.K.Sink.written l.fn.sink)
      → g.R.LineReader.took l.reader k (before ++ map Byte prefix) (g.K.Sink.written l.sink);
  calm : g.K.Sink.faults l.sink ≡ g.K.Sink.faults l.fn.sink;
}

abbrev pub decreases-loop-rest : goal.decreases-loop-rest
decreases-loop-rest g l = length l.rest
