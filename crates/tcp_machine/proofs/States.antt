-- What is proved for each of the nine states is proved for any.
use Rattle.tcp_machine.proofs.Prelude.{State, Closed, SynRcvd, Established, CloseWait, FinWait1, FinWait2, Closing, TimeWait, LastAck}

pub by_state : (P : State → Type 0) → P Closed → P SynRcvd → P Established → P CloseWait → P FinWait1 → P FinWait2 → P Closing → P TimeWait
    → P LastAck → (s : State) → P s
by_state P a b c d e f g h i Closed = a
by_state P a b c d e f g h i SynRcvd = b
by_state P a b c d e f g h i Established = c
by_state P a b c d e f g h i CloseWait = d
by_state P a b c d e f g h i FinWait1 = e
by_state P a b c d e f g h i FinWait2 = f
by_state P a b c d e f g h i Closing = g
by_state P a b c d e f g h i TimeWait = h
by_state P a b c d e f g h i LastAck = i
