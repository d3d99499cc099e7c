-- A connection whose application was asked fits, and has what is outstanding; its numbers are low.
use Rattle.uip_node.proofs.Prelude.{All, ℕ, ◌<◌, ◌≤◌, length, sym, subst, arith, AppState, AppSpec, IsSnapshot, IsNow, IsU32, Now, State}
use Rattle.uip_node.proofs.Prelude.{Closed, SynRcvd, Established, CloseWait, FinWait1, FinWait2, Closing, TimeWait, LastAck, Connection}
use Rattle.uip_node.proofs.Prelude.{Outcome, asked, IsSteady}
use Rattle.uip_node.proofs.Fits.{FitConn, FitOut, asked_fits, prepared_snapshots}
use Rattle.uip_node.proofs.Outstanding.{IsNear, TextSafe, SafeState, OutReports, OutReported, asked_reports}

module _ (m : AppSpec) (steady : IsSteady m) (Low : ℕ → Type 0) (low_text : (p : AppState) → All IsSnapshot p.snapshots → Low (length (m.output p))) where
  asks_fit : (o : Outcome) → All IsU32 o.numbers → FitConn o.connection → (now : Now) → IsNow now
      → All IsSnapshot (m.prepare o.numbers o.connection.part now).snapshots
  asks_fit o n f now is = prepared_snapshots m steady o.numbers o.connection.part now n is f.snapshots

  pub stepped_fits : (now : Connection → Now) (o : Outcome) → ((c : Connection) → FitConn c → IsNow (now c)) → FitOut o → FitConn (asked m now o).connection
  stepped_fits now o is fo = (asked_fits m steady now is o fo).conn

  pub stepped_reports : (now : Connection → Now) (old : Connection) (o : Outcome) → ((c : Connection) → FitConn c → IsNow (now c))
      → FitOut o → OutReports m steady Low low_text old o.connection o.step → OutReported m steady Low low_text old (asked m now o)
  stepped_reports now old o is fo h = asked_reports m steady Low low_text now old o
      (λ x q. asks_fit o fo.numbers fo.conn x (subst IsNow (sym q) (is o.connection fo.conn))) h
