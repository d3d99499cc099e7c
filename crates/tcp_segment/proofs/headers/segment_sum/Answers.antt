use Rattle.tcp_segment.proofs.Prelude.{List, ℕ, ◌++◌, ◌∙◌, ap, checksum_of}
use Rattle.tcp_segment.proofs.headers.segment_sum.Goals as goal

pub returns : goal.returns
returns c =
    c.checksum_joined.ensures
    ∙ ap (λ (prefix : List ℕ). checksum_of (prefix ++ c.args.segment.now)) c.pseudo_header.ensures
