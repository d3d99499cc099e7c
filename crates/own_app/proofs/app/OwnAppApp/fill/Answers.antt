use Rattle.own_app.proofs.Prelude.{List, ap, drop, left_of_value, length, subst, sym, take, ℕ, ◌+◌, ◌∙◌, ◌≤◌}
use Rattle.own_app.proofs.CaptureLaws.{room}
use Rattle.own_app.proofs.app.OwnAppApp.fill.Goals as goal

pub copy_from-requires : goal.copy_from-requires
copy_from-requires c =
    subst (λ (l : List ℕ). c.args.self.now.at + length c.args.out.now ≤ length l) (sym c.as_slice.ensures.value)
    (room c.args.self.now (length c.args.out.now) c.requires)

pub returns : goal.returns
returns c = λ p s.
    c.copy_from.ensures
    ∙ ap (λ l. take (length c.args.out.now) (drop c.args.self.now.at l)) c.as_slice.ensures.value
    ∙ ap (λ l. take (length c.args.out.now) l) (sym (left_of_value _ p s))
