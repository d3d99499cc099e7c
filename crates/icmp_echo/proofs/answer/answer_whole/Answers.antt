use Rattle.icmp_echo.proofs.Prelude.{◌∙◌, ap, echo_fate}
use Rattle.icmp_echo.proofs.InPlace.{made_in_place, message_kept}
use Rattle.icmp_echo.proofs.answer.answer_whole.Goals as goal

pub answer_message-requires : goal.answer_message-requires
answer_message-requires c = ap echo_fate (message_kept c.args.datagram.now _ c.requires.long c.exchange.ensures) ∙ c.requires.asks

pub returns : goal.returns
returns c = made_in_place _ _ _ c.requires.long c.exchange.ensures c.answer_message.ensures
