use Rattle.serve_loop.proofs.ByteLaws.{slip_brings_bytes}
use Rattle.serve_loop.proofs.laws.serial_lines_bring_bytes.Goals as goal

pub returns : goal.returns
returns c = slip_brings_bytes
