-- The column of a summary in which a client is counted, by its state.
use Rattle.std.specs.Prelude.{ℕ}
use Rattle.link_client.specs.declared.client_state.ClientState.{ClientState}
use Rattle.link_client.specs.declared.client_state.ClientState.TheVariants.{Closed, Opened, Reset}

-- 0 if it received the server's FIN while it was open, 1 if it is open, 2 if it was reset; 3 if it is idle, opening, closing or ended
abbrev pub column : ClientState → ℕ
column Closed = 0
column Opened = 1
column Reset = 2
column _ = 3
