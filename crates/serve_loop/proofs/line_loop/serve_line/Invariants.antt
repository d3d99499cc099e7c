use Rattle.serve_loop.proofs.Prelude.{All, ◌≡◌, ◌+◌, [], List, ℕ, length, AppSpec, Item, Consumes, bytes_among, line_view, IsCalm, Addr}
use Rattle.serve_loop.proofs.Prelude.{IsItem, station_events_of_line, AllWritten, HasTaken, IsHere}
use Rattle.serve_loop.proofs.line_loop.serve_line.Given as goal

abbrev pub invariant-loop-left : goal.invariant-loop-left
invariant-loop-left g l = record {
  same : g.A.App.config l.node.shared ≡ g.A.App.config l.fn.node.shared;
  served : (k : g.M.Medium.Config) (pace : ℕ) → HasTaken pace [] (g.M.Medium.fed l.fn.medium k) l.fn.pacer → record {
    taken : List Item;
    are : All IsItem taken;
    consumed : Consumes (g.L.Link.coming l.fn.link) (g.L.Link.coming l.link) taken;
    number : length taken + l.left ≡ l.items;
    at : HasTaken pace (bytes_among taken) (g.M.Medium.fed l.medium k) l.pacer;
    wrote : (m : AppSpec) (own : Addr) → AllWritten m g.A.App.served (g.M.Medium.spec k) own (station_events_of_line (g.M.Medium.spec k) own pace taken)
        (IsHere g.A.App (g.M.Medium.did l.fn.medium k) m own l.fn.node)
        (IsHere g.A.App (g.M.Medium.did l.medium k) m own l.node) (g.K.Sink.written l.fn.sink) (g.K.Sink.written l.sink);
    calm : IsCalm (line_view g.L.Link g.K.Sink l.fn.link l.fn.sink) (line_view g.L.Link g.K.Sink l.link l.sink);
  };
}

abbrev pub decreases-loop-left : goal.decreases-loop-left
decreases-loop-left g l = l.left
