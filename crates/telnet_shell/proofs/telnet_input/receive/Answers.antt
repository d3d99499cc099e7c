use Rattle.telnet_shell.proofs.Prelude.{[], ◌∷◌, Byte, Answer}
use Rattle.telnet_shell.proofs.Opening.{goes_on}
use Rattle.telnet_shell.proofs.telnet_input.receive.Goals as goal

pub returns-in-Nothing-clause-open : goal.returns-in-Nothing-clause-open
returns-in-Nothing-clause-open c = λ delivered is.
    goes_on c.args.kept.now.items _ c.args.over.now _ c.args.iac.now c.sequence_after.result delivered c.args.byte []
    c.sequence_after.ensures c.in-Nothing.ensures (λ line l. l) is

pub returns-in-Answer-clause-open : goal.returns-in-Answer-clause-open
returns-in-Answer-clause-open c = λ delivered is.
    goes_on c.args.kept.now.items _ c.args.over.now _ c.args.iac.now c.sequence_after.result delivered c.args.byte
    (Answer c.in-Answer.command ∷ []) c.sequence_after.ensures c.in-Answer.ensures (λ line l. l) is

pub returns-in-Byte-clause-open : goal.returns-in-Byte-clause-open
returns-in-Byte-clause-open c = λ delivered is.
    goes_on c.args.kept.now.items _ c.args.over.now _ c.args.iac.now c.sequence_after.result delivered c.args.byte
    (Byte c.in-Byte.byte ∷ []) c.sequence_after.ensures c.in-Byte.ensures c.receive_text.ensures.open is
