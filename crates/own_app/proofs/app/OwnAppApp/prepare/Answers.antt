use Rattle.own_app.proofs.Prelude.{Bool, OwnState, StateRepresents, if◌then◌else◌, message_of, numbers_of, state_of, subst, sym}
use Rattle.own_app.proofs.Prelude.{with_message, ◌∙◌}
use Rattle.own_app.proofs.CaptureLaws.{capture_represents, is_next_by_value, message_back}
use Rattle.own_app.proofs.app.OwnAppApp.prepare.Goals as goal

pub returns-then-may_capture : goal.returns-then-may_capture
returns-then-may_capture c = λ p s.
    let a : OwnState = state_of c.args.self.now in
    let message = message_of c.args.shared.now.message in
    let opened = c.args.shared.now.opened in
    let numbers = numbers_of opened message in
    let due = sym c.may_capture.ensures.due ∙ c.if-may_capture.true in
    subst (λ (b : Bool). StateRepresents (state_of c.capture.new.self) (if b then with_message numbers p c.args._now.now else p))
    (sym (is_next_by_value a p opened message c.may_capture.ensures.bytes s ∙ due))
    (subst (λ (x : OwnState). StateRepresents x (with_message numbers p c.args._now.now)) (sym c.capture.ensures)
    (capture_represents a p message numbers c.args._now.now (sym (message_back opened message c.may_capture.ensures.bytes)) s due))

pub returns-else-may_capture : goal.returns-else-may_capture
returns-else-may_capture c = λ p s.
    let a : OwnState = state_of c.args.self.now in
    let message = message_of c.args.shared.now.message in
    let opened = c.args.shared.now.opened in
    subst (λ (b : Bool). StateRepresents a (if b then with_message (numbers_of opened message) p c.args._now.now else p))
    (sym (is_next_by_value a p opened message c.may_capture.ensures.bytes s ∙ sym c.may_capture.ensures.due ∙ c.if-may_capture.false)) s
