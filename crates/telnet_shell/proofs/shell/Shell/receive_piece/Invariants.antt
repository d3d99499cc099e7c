use Rattle.telnet_shell.proofs.Prelude.{take, AppState, receive_all, ShellRepresents}
use Rattle.telnet_shell.proofs.shell.Shell.receive_piece.Given as goal

abbrev pub invariant-loop-byte : goal.invariant-loop-byte
invariant-loop-byte l = (p : AppState) → ShellRepresents l.fn.self p → ShellRepresents l.self (receive_all p (take l.byte-index l.piece))
