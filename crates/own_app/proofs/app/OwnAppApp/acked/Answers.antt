use Rattle.own_app.proofs.Prelude.{List, arith, length, refl, subst, sym, ℕ, ◌+◌, ◌≤◌}
use Rattle.own_app.proofs.CaptureLaws.{room}
use Rattle.own_app.proofs.app.OwnAppApp.acked.Goals as goal

pub advanced-self-requires : goal.advanced-self-requires
advanced-self-requires c =
    subst (λ (l : List ℕ). c.args.self.now.at + c.args.count ≤ length l) (sym c.as_slice.ensures.value) (room c.args.self.now c.args.count c.requires)

pub returns-clause-part : goal.returns-clause-part
returns-clause-part c = λ p s. record {
  ticket = s.ticket;
  taken = s.taken;
  overrun = s.overrun;
  received = s.received;
  before = s.before;
  sending = s.sending;
  acked = omega (arith, s.acked, c.advanced-self.ensures);
  within = (let fits = room c.args.self.now c.args.count c.requires in omega (arith, c.advanced-self.ensures, fits));
  count = s.count;
  ended = s.ended;
  polls = refl;
}
