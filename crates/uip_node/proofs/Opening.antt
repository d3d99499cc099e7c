-- A new node.
use Rattle.uip_node.proofs.Prelude.{ℕ, zero, suc, ◌≡◌, List, [], ◌∷◌, length, replicate, Some, Bool, true, false, sym, ap, ◌∙◌, subst}
use Rattle.uip_node.proofs.Prelude.{arith, ◌<◌, slice_get, get_or_from_slice_get, Ghosts, is_live, Closed, Connection, closed}
use Rattle.uip_node.proofs.Prelude.{ConnRepresents, is_open, Conn, AllWellFormed, IsWellFormedConn, SlotsRepresent}
use Rattle.std.specs.Prelude.{All}

not_both : (b : Bool) → b ≡ false → b ≡ true → ⊥
not_both true f t = cc
not_both false f t = cc

is_within : {X : Type 0} (xs : List X) (i : ℕ) (x : X) → slice_get xs i ≡ Some x → i < length xs
is_within [] i x at = cc
is_within (y ∷ ys) zero x at = omega arith
is_within (y ∷ ys) (suc i) x at = omega (arith, is_within ys i x at)

all_at : {X : Type 0} (P : X → Type 0) (xs : List X) (i : ℕ) (x : X) → All P xs → slice_get xs i ≡ Some x → P x
all_at P xs i x all at = subst P (get_or_from_slice_get xs i x x at) (all i x (is_within xs i x at))

closed_kept : {A S : Type 0} (g : Ghosts A S) (k : g.Config) (c : Conn A) → c.state ≡ Closed → IsWellFormedConn g k c
closed_kept g k c h = record {
  sound = record {
    numbers = λ live. absurd (not_both (is_live c.state) (ap is_live h) live);
    says = λ open_to_it. absurd (not_both (is_open c.state) (ap is_open h) open_to_it);
  };
  busy = λ waits. let e = sym h ∙ waits in cc;
}

pub all_kept : {A S : Type 0} (g : Ghosts A S) (k : g.Config) (cs : List (Conn A)) → All (λ (c : Conn A). c.state ≡ Closed) cs → AllWellFormed g k cs
all_kept {A} g k cs all i c at = closed_kept g k c (all_at (λ (d : Conn A). d.state ≡ Closed) cs i c all at)

from_replicate : {X : Type 0} (n i : ℕ) (x y : X) → slice_get (replicate n x) i ≡ Some y → y ≡ x
from_replicate zero i x y h = cc
from_replicate (suc n) zero x y h = cc
from_replicate (suc n) (suc i) x y h = from_replicate n i x y h

closed_represents : {A S : Type 0} (g : Ghosts A S) (k : g.Config) (c : Conn A) (a : Connection) → c.state ≡ Closed → a ≡ closed → ConnRepresents g k c a
closed_represents g k c a h e =
    let state : a.state ≡ Closed = ap (λ (b : Connection). b.state) e in
    record {
      numbers = record { state = h ∙ sym state; like = λ live. absurd (not_both (is_live a.state) (ap is_live state) live) };
      part = λ open_to_it. absurd (not_both (is_open a.state) (ap is_open state) open_to_it);
    }

pub all_represent : {A S : Type 0} (g : Ghosts A S) (k : g.Config) (cs : List (Conn A)) → All (λ (c : Conn A). c.state ≡ Closed) cs
    → length cs ≡ 10 → SlotsRepresent g k cs (replicate 10 closed)
all_represent {A} g k cs all ten = record {
  same_length = sym ten;
  each = λ i c a at there. closed_represents g k c a (all_at (λ (d : Conn A). d.state ≡ Closed) cs i c all at) (from_replicate 10 i closed a there);
}
