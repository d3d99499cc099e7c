use Rattle.line_laws.proofs.Prelude.{slip_medium, slip_brings_bytes}
use Rattle.line_laws.proofs.Lines.{every_line}
use Rattle.line_laws.proofs.laws.every_serial_line.Goals as goal

pub returns : goal.returns
returns c = every_line slip_medium slip_brings_bytes
