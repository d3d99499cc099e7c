-- Texts written one after the other.
use Rattle.uip_edge.proofs.Prelude.{◌≡◌, ℕ, List, [], ◌++◌, refl, sym, subst, Result, Ok, Err, IsErr, arith, Appends, HasCause, SinkView}
use Rattle.uip_edge.proofs.Prelude.{AppendsPrefix, Writes}
use Rattle.uip_edge.proofs.Reported.{Appends-none, Appends-then, prefix_more, prefix_then}

pub writes_by : {T E : Type 0} (r : Result T E) (a b : SinkView) (xs ys : List ℕ) → ys ≡ xs → Writes a b r xs → Writes a b r ys
writes_by r a b xs ys e w = subst (λ (l : List ℕ). Writes a b r l) (sym e) w

cause_then : {T E : Type 0} (r : Result T E) (a m b : ℕ) → m ≡ a → HasCause m b r → HasCause a b r
cause_then r a m b e c = subst (λ (n : ℕ). HasCause n b r) e c

-- a whole text, and then what a call made of the next one
pub writes_then : {T E : Type 0} (r : Result T E) (a m b : SinkView) (xs ys : List ℕ) → Appends a.written m.written xs → m.faults ≡ a.faults
    → Writes m b r ys → Writes a b r (xs ++ ys)
writes_then (Ok x) a m b xs ys p same w = record {
  whole = Appends-then a.written m.written b.written xs ys p w.whole;
  prefix = tt;
  cause = cause_then (Ok x) a.faults m.faults b.faults same w.cause;
}
writes_then (Err x) a m b xs ys p same w = record {
  whole = tt;
  prefix = prefix_then a.written m.written b.written xs ys p w.prefix;
  cause = cause_then (Err x) a.faults m.faults b.faults same w.cause;
}

fails_as : {T U E F : Type 0} (r : Result T E) → IsErr r → (x : F) (a b : ℕ) → HasCause {T = U} a b (Err x) → HasCause a b r
fails_as (Ok y) h x a b c = absurd (cc h)
fails_as (Err y) h x a b c = record { later = c.later; same = tt; failed = c.failed }

broken : {T U E F : Type 0} (r : Result T E) → IsErr r → (x : F) (a b : SinkView) (text : List ℕ) → AppendsPrefix a.written b.written text
    → HasCause {T = U} a.faults b.faults (Err x) → Writes a b r text
broken (Ok y) h x a b text p c = absurd (cc h)
broken (Err y) h x a b text p c = record { whole = tt; prefix = p; cause = fails_as (Err y) h x a.faults b.faults c }

-- a failed call after a whole text, if more was to follow: the result is a failure too
pub writes_broken : {T U E F : Type 0} (r : Result T E) → IsErr r → (x : F) (a m b : SinkView) (xs ys more whole : List ℕ) → (xs ++ ys) ++ more ≡ whole
    → Appends a.written m.written xs → m.faults ≡ a.faults → Writes {T = U} m b (Err x) ys → Writes a b r whole
writes_broken {U = U} r h x a m b xs ys more whole e p same w =
    let here = writes_then {T = U} (Err x) a m b xs ys p same w in
    broken {U = U} r h x a b whole (prefix_more a.written b.written (xs ++ ys) more whole e here.prefix) here.cause

-- nothing was written
pub writes_none : {T E : Type 0} (a : SinkView) (t : T) → Writes {T = T} {E = E} a a (Ok t) []
writes_none a t = record { whole = Appends-none a.written; prefix = tt; cause = record { later = omega arith; same = refl; failed = tt } }
