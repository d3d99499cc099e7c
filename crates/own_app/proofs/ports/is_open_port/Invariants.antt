use Rattle.std.proofs.Common.{◌≡◌, false, take}
use Rattle.own_app.specs.Ports.{is_open_port}
use Rattle.own_app.proofs.ports.is_open_port.Given as goal

-- none of those before is the port
abbrev pub invariant-loop-open : goal.invariant-loop-open
invariant-loop-open l = is_open_port (take l.open-index l.ports) l.port ≡ false
