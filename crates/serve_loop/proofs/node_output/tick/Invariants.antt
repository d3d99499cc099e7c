use Rattle.serve_loop.proofs.Prelude.{◌≡◌, ◌++◌, ℕ, List, map, AppSpec, Addr, AllWritten, OfMedium, IsHere}
use Rattle.serve_loop.proofs.NodeLaws.{calls}
use Rattle.serve_loop.proofs.node_output.tick.Given as goal

abbrev pub invariant-loop-slot : goal.invariant-loop-slot
invariant-loop-slot g l = record {
  same : g.A.App.config l.node.shared ≡ g.A.App.config l.fn.node.shared;
  fed : (k : g.M.Medium.Config) (before : List ℕ) → g.M.Medium.fed l.fn.medium k before → g.M.Medium.fed l.medium k before;
  wrote : (k : g.M.Medium.Config) (m : AppSpec) (own : Addr) → AllWritten m g.A.App.served (g.M.Medium.spec k) own
      (map OfMedium (g.M.Medium.spec k).at_tick ++ calls l.slot)
      (IsHere g.A.App (g.M.Medium.did l.fn.medium k) m own l.fn.node)
      (IsHere g.A.App (g.M.Medium.did l.medium k) m own l.node) (g.K.Sink.written l.fn.sink) (g.K.Sink.written l.sink);
  calm : g.K.Sink.faults l.sink ≡ g.K.Sink.faults l.fn.sink;
}
