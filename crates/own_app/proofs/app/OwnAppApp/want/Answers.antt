use Rattle.own_app.proofs.Prelude.{List, length, subst, sym, ℕ, ◌≤◌}
use Rattle.own_app.proofs.CaptureLaws.{place}
use Rattle.own_app.proofs.app.OwnAppApp.want.Goals as goal

pub rest_len-left-requires : goal.rest_len-left-requires
rest_len-left-requires c = subst (λ (l : List ℕ). c.args.self.now.at ≤ length l) (sym c.as_slice.ensures.value) (place c.args.self.now c.requires)
