use Rattle.telnet_shell.proofs.Prelude.{take, sym, subst, arith, AppState, receive_all, ShellRepresents}
use Rattle.telnet_shell.proofs.Asking.{next_byte}
use Rattle.telnet_shell.proofs.shell.Shell.receive_piece.Goals as goal

pub loop-byte-preserved : goal.loop-byte-preserved
loop-byte-preserved c = λ p s.
    subst (λ (q : AppState). ShellRepresents c.receive.new.self q)
    (sym (next_byte p c.args.piece.now c.loop-byte.byte-index (omega (arith, c.loop-byte-test.true, c.loop-byte.auto.byte-index-end))))
    (c.receive.ensures (receive_all p (take c.loop-byte.byte-index c.args.piece.now)) (c.loop-byte.invariant p s))
