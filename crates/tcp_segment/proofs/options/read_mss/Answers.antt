use Rattle.tcp_segment.proofs.Prelude.{◌∙◌, sym, arith, take_rest}
use Rattle.tcp_segment.proofs.Passing.{next_option}
use Rattle.tcp_segment.proofs.options.read_mss.Goals as goal

pub options-preserved : goal.options-preserved
options-preserved c =
    let other = rw take_rest at c.is_mss.ensures in
    let behind = rw take_rest at c.trailing_bytes.ensures in
    rw take_rest
    (rw take_rest
    (next_option c.options.rest.now c.in_ok-count.count (omega arith) (sym other ∙ c.if-is_mss.false) (sym behind ∙ c.in_ok-count.was)
    ∙ c.options.invariant))
