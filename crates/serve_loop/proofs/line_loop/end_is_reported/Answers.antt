use Rattle.serve_loop.proofs.ServeLaws.{end_reported}
use Rattle.serve_loop.proofs.line_loop.end_is_reported.Goals as goal

pub returns : goal.returns
returns c = end_reported
