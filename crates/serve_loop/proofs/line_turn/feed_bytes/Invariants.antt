use Rattle.serve_loop.proofs.Prelude.{◌≡◌, ◌++◌, List, ℕ, length, map, AppSpec, Byte, Addr, station_events_after, AllWritten, HasTaken}
use Rattle.serve_loop.proofs.Prelude.{IsHere}
use Rattle.serve_loop.proofs.line_turn.feed_bytes.Given as goal

abbrev pub invariant-loop-rest : goal.invariant-loop-rest
invariant-loop-rest g l = record {
  prefix : List ℕ;
  pieces : l.bytes ≡ prefix ++ l.rest;
  same : g.A.App.config l.node.shared ≡ g.A.App.config l.fn.node.shared;
  taken : (k : g.M.Medium.Config) (pace : ℕ) (before : List ℕ) → HasTaken pace before (g.M.Medium.fed l.fn.medium k) l.fn.pacer
      → HasTaken pace (before ++ prefix) (g.M.Medium.fed l.medium k) l.pacer;
  wrote : (k : g.M.Medium.Config) (pace : ℕ) (before : List ℕ) → HasTaken pace before (g.M.Medium.fed l.fn.medium k) l.fn.pacer
      → (m : AppSpec) (own : Addr) → AllWritten m g.A.App.served (g.M.Medium.spec k) own (station_events_after (g.M.Medium.spec k) own pace
      before (map Byte prefix))
      (IsHere g.A.App (g.M.Medium.did l.fn.medium k) m own l.fn.node)
      (IsHere g.A.App (g.M.Medium.did l.medium k) m own l.node) (g.K.Sink.written l.fn.sink) (g.K.Sink.written l.sink);
  calm : g.K.Sink.faults l.sink ≡ g.K.Sink.faults l.fn.sink;
}

abbrev pub decreases-loop-rest : goal.decreases-loop-rest
decreases-loop-rest g l = length l.rest
