-- The rows of the states.
-- [add: state] Its row.
use Rattle.tcp_machine.proofs.Prelude.{Bool, true, sym, subst, SynRcvd, CloseWait, FinWait1, FinWait2, Closing, LastAck, by_state, plain}
use Rattle.tcp_machine.proofs.Prelude.{Refines}
use Rattle.tcp_machine.proofs.Unspoken.{row_alone, row_spoken}
use Rattle.tcp_machine.proofs.segment_arrives.by_state.Goals as goal

pub returns-then-acked : goal.returns-then-acked
returns-then-acked g c =
    let s = plain c.args.seg.now c.args.piece.now in
    let t = row_spoken g.A.App c.args.shared.now c.connects.new.shared c.args.conn.now c.connects.new.conn c.connects.result true s SynRcvd
    c.in-SynRcvd.is (c.connects.ensures s) in
    subst (λ (b : Bool). Refines g.A.App (λ m a ns. by_state m a.state b a ns s) c.args.conn.now c.args.shared.now c.connects.new.conn
    c.connects.new.shared c.connects.result) (sym c.if-acked.true) t

pub returns-in-CloseWait : goal.returns-in-CloseWait
returns-in-CloseWait g c =
    let s = plain c.args.seg.now c.args.piece.now in
    row_spoken g.A.App c.args.shared.now c.in_close_wait.new.shared c.args.conn.now c.in_close_wait.new.conn c.in_close_wait.result
    c.args.acked s CloseWait c.in-CloseWait.is (c.in_close_wait.ensures s)

pub returns-in-FinWait1 : goal.returns-in-FinWait1
returns-in-FinWait1 g c =
    let s = plain c.args.seg.now c.args.piece.now in
    row_alone g.A.App c.args.shared.now c.args.conn.now c.in_fin_wait_1.new.conn c.in_fin_wait_1.result c.args.acked s FinWait1
    c.in-FinWait1.is (λ _. c.in_fin_wait_1.ensures.sound) c.in_fin_wait_1.ensures.takes

pub returns-in-FinWait2 : goal.returns-in-FinWait2
returns-in-FinWait2 g c =
    let s = plain c.args.seg.now c.args.piece.now in
    row_alone g.A.App c.args.shared.now c.args.conn.now c.in_fin_wait_2.new.conn c.in_fin_wait_2.result c.args.acked s FinWait2
    c.in-FinWait2.is (λ _. c.in_fin_wait_2.ensures.sound) (λ m. c.in_fin_wait_2.ensures.takes m c.args.acked)

pub returns-in-Closing : goal.returns-in-Closing
returns-in-Closing g c =
    let s = plain c.args.seg.now c.args.piece.now in
    row_alone g.A.App c.args.shared.now c.args.conn.now c.in_closing.new.conn c.in_closing.result c.args.acked s Closing c.in-Closing.is
    (λ _. c.in_closing.ensures.sound) (λ m. c.in_closing.ensures.takes m s)

pub returns-in-LastAck : goal.returns-in-LastAck
returns-in-LastAck g c =
    let s = plain c.args.seg.now c.args.piece.now in
    row_alone g.A.App c.args.shared.now c.args.conn.now c.in_last_ack.new.conn c.in_last_ack.result c.args.acked s LastAck c.in-LastAck.is
    c.in_last_ack.ensures.sound (λ m. c.in_last_ack.ensures.takes m s)
