use Rattle.own_app.proofs.Prelude.{Bool, ap, if◌then◌else◌, message_of, numbers_of, state_of, sym, with_message, ◌∙◌}
use Rattle.own_app.proofs.CaptureLaws.{is_next_by_value}
use Rattle.own_app.proofs.app.OwnAppApp.is_due.Goals as goal

pub returns : goal.returns
returns c = record {
  not_due = λ e p now s.
      let message = message_of c.args.shared.now.message in
      let opened = c.args.shared.now.opened in
      ap (λ (b : Bool). if b then with_message (numbers_of opened message) p now else p)
      (is_next_by_value (state_of c.args.self.now) p opened message c.may_capture.ensures.bytes s ∙ sym c.may_capture.ensures.due ∙ e);
}
