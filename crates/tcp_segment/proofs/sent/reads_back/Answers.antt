use Rattle.tcp_segment.proofs.Back.{segment_back}
use Rattle.tcp_segment.proofs.sent.reads_back.Goals as goal

pub returns : goal.returns
returns c = segment_back
