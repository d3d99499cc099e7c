use Rattle.tcp_segment.proofs.Prelude.{◌++◌, ◌∙◌, ap, take, drop, arith}
use Rattle.tcp_segment.proofs.Putting.{option_is}
use Rattle.tcp_segment.proofs.sent.put_option.Goals as goal

pub returns : goal.returns
returns c =
    c.put32.ensures ∙ ap (λ l. take 40 c.args.area.now ++ l ++ drop 44 c.args.area.now) (option_is c.from.result c.args.mss c.from.ensures (omega arith))
