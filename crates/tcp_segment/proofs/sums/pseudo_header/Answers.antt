use Rattle.tcp_segment.proofs.Prelude.{arith}
use Rattle.tcp_segment.proofs.Putting.{pseudo_is}
use Rattle.tcp_segment.proofs.sums.pseudo_header.Goals as goal

pub returns : goal.returns
returns c = rw c.to_be_bytes.ensures (pseudo_is c.args.source.0 c.args.target.0 _ _ c.args.len (omega arith) (omega arith) (omega arith) (omega arith))
