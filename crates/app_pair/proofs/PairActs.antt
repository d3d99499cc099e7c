-- Each application of a pair acts as it would alone.
use Rattle.std.proofs.Common.{ℕ, Bool, true, false, List, refl}
use Rattle.app_events.specs.Prelude.{AppSpec, AppState}
use Rattle.app_pair.specs.PairNumbers.{with_own}
use Rattle.app_pair.specs.PairSpec.{KeepsCaptures, by_port, one_of_two, spec_at}
use Rattle.app_pair.specs.TwoApplications.{ActsAs, NumbersAfter, PairIsTwoApplications}
use Rattle.app_pair.specs.Lemmas.NumberLaws.{others_stay, own_back}
use Rattle.app_pair.specs.Lemmas.PairLaws.{at_first, at_second, pair_again, sees_acked, sees_connected, sees_newdata, sees_polled}
use Rattle.app_pair.specs.Lemmas.PairLaws.{sees_prepare}

numbers_after : (second : Bool) (before own : List ℕ) → NumbersAfter second before (with_own second own before) own
numbers_after second before own = record { its_own = own_back second own before; others = others_stay second own before }

one_acts : (second : Bool) (m : AppSpec) → KeepsCaptures m → (p : AppState) → ActsAs second (one_of_two second m) m p
one_acts second m captures p = record {
  output = refl;
  connected = λ numbers. record { part = sees_connected second m captures numbers p.port; numbers = numbers_after second numbers _ };
  newdata = λ numbers piece. record { part = sees_newdata second m captures numbers p piece; numbers = numbers_after second numbers _ };
  prepare = λ numbers now. sees_prepare second m captures numbers p now;
  want = λ numbers. refl;
  acked = λ numbers count. record { part = sees_acked second m captures numbers p count; numbers = numbers_after second numbers _ };
  polled = λ numbers. record { part = sees_polled second m captures numbers p; numbers = numbers_after second numbers _ };
  ended = λ numbers how. numbers_after second numbers _;
}

by_port_acts : (at : ℕ → AppSpec) (second : Bool) (m : AppSpec) (p : AppState) → ActsAs second (at p.port) m p → ActsAs second (by_port at) m p
by_port_acts at second m p h = record {
  output = h.output;
  connected = h.connected;
  newdata = h.newdata;
  prepare = h.prepare;
  want = h.want;
  acked = h.acked;
  polled = h.polled;
  ended = h.ended;
}

pub two_applications : PairIsTwoApplications
two_applications = record {
  first = λ second m n x y p e.
      by_port_acts (spec_at second m n) false m p (at_first second m n (λ (z : AppSpec). ActsAs false z m p) p.port e (one_acts false m x.snapshots p));
  second = λ second m n x y p e.
      by_port_acts (spec_at second m n) true n p (at_second second m n (λ (z : AppSpec). ActsAs true z n p) p.port e (one_acts true n y.snapshots p));
  again = λ second m n x y. pair_again second m n x.port y.port;
}
