use Rattle.httpd.proofs.Prelude.{◌++◌, subst, ReceivesWord}
use Rattle.httpd.proofs.Compacting.{read_as}
use Rattle.httpd.proofs.compact.receive.Goals.{else-target, then-target}
use Rattle.httpd.proofs.compact.receive.Goals as goal

pub returns-clause-stage : goal.returns-clause-stage
returns-clause-stage g c = λ request received. c.decide.ensures.stage (request ++ c.args.piece.now) (elim c.if-target.branch [
  | then-target w ↦
      read_as _ _ _ _ (request ++ c.args.piece.now) w.delivered-is w.line-is
      (w.receive_target-delivered.ensures request (subst (λ b. ReceivesWord b c.args.line.now request) w.if-target.true received))
  | else-target w ↦
      read_as _ _ _ _ (request ++ c.args.piece.now) w.delivered-is w.line-is
      (w.receive_method-delivered.ensures request (subst (λ b. ReceivesWord b c.args.line.now request) w.if-target.false received))
])

pub returns-clause-hits : goal.returns-clause-hits
returns-clause-hits g c = λ request received. c.decide.ensures.hits (request ++ c.args.piece.now) (elim c.if-target.branch [
  | then-target w ↦
      read_as _ _ _ _ (request ++ c.args.piece.now) w.delivered-is w.line-is
      (w.receive_target-delivered.ensures request (subst (λ b. ReceivesWord b c.args.line.now request) w.if-target.true received))
  | else-target w ↦
      read_as _ _ _ _ (request ++ c.args.piece.now) w.delivered-is w.line-is
      (w.receive_method-delivered.ensures request (subst (λ b. ReceivesWord b c.args.line.now request) w.if-target.false received))
])
