-- The table: which connection serves a pair of sockets.
use Rattle.uip_node.proofs.Prelude.{position_from, position_from-zero, ◌≡◌, ℕ, zero, suc, ◌+◌, true, false, List, [], ◌∷◌, set, map}
use Rattle.uip_node.proofs.Prelude.{replicate, cond, position, refl, sym, ap, ◌∙◌, subst, arith, Option, Some, None, slice_get}
use Rattle.uip_node.proofs.Prelude.{slice_index_or, if◌then◌else◌, Sockets, Connection, closed, serves, serving}
use Rattle.uip_node.proofs.Basics.{both_ways}

pub data Written (X : Type 0) (xs : List X) (i : ℕ) (new : X) (j : ℕ) (y : X) : Type 0 where
  here : j ≡ i → new ≡ y → Written X xs i new j y
  there : (j ≡ i → ⊥) → slice_get xs j ≡ Some y → Written X xs i new j y

pub get_set : {X : Type 0} (xs : List X) (i : ℕ) (new : X) (j : ℕ) (y : X) → slice_get (set xs i new) j ≡ Some y → Written X xs i new j y
get_set [] i new j y h = absurd (cc)
get_set (x ∷ xs) zero new zero y h = here refl (let e : new ≡ y = cc in e)
get_set (x ∷ xs) zero new (suc j) y h = there (λ e. absurd (omega arith)) h
get_set (x ∷ xs) (suc i) new zero y h = there (λ e. absurd (omega arith)) h
get_set (x ∷ xs) (suc i) new (suc j) y h = elim (get_set xs i new j y h) [ here e f ↦ here (ap suc e) f | there n e ↦ there (λ x. n (omega arith)) e ]

pub get_set_same : {X : Type 0} (xs : List X) (i : ℕ) (old new : X) → slice_get xs i ≡ Some old → slice_get (set xs i new) i ≡ Some new
get_set_same [] i old new h = absurd (cc)
get_set_same (x ∷ xs) zero old new h = refl
get_set_same (x ∷ xs) (suc i) old new h = get_set_same xs i old new h

pub set_same : {X : Type 0} (xs : List X) (i : ℕ) (x : X) → slice_get xs i ≡ Some x → set xs i x ≡ xs
set_same [] i x h = refl
set_same (y ∷ xs) zero x h = ap (λ z. z ∷ xs) (let e : x ≡ y = cc in e)
set_same (y ∷ xs) (suc i) x h = ap (λ l. y ∷ l) (set_same xs i x h)

-- nothing is written past the end
pub set_past : {X : Type 0} (xs : List X) (i : ℕ) (x : X) → slice_get xs i ≡ None → set xs i x ≡ xs
set_past [] i x h = refl
set_past (y ∷ xs) zero x h = absurd (cc)
set_past (y ∷ xs) (suc i) x h = ap (λ l. y ∷ l) (set_past xs i x h)

pub get_set_other : {X : Type 0} (xs : List X) (i : ℕ) (new : X) (j : ℕ) → (j ≡ i → ⊥) → slice_get (set xs i new) j ≡ slice_get xs j
get_set_other [] i new j n = refl
get_set_other (x ∷ xs) zero new zero n = absurd (n refl)
get_set_other (x ∷ xs) zero new (suc j) n = refl
get_set_other (x ∷ xs) (suc i) new zero n = refl
get_set_other (x ∷ xs) (suc i) new (suc j) n = get_set_other xs i new j (λ e. n (ap suc e))

pub index_of : {X : Type 0} (xs : List X) (i : ℕ) (d x : X) → slice_get xs i ≡ Some x → slice_index_or xs i d ≡ x
index_of [] i d x h = absurd (cc)
index_of (y ∷ xs) zero d x h = let e : y ≡ x = cc in e
index_of (y ∷ xs) (suc i) d x h = index_of xs i d x h

pub index_none : {X : Type 0} (xs : List X) (i : ℕ) (d : X) → slice_get xs i ≡ None → slice_index_or xs i d ≡ d
index_none [] i d h = refl
index_none (y ∷ xs) zero d h = absurd (cc)
index_none (y ∷ xs) (suc i) d h = index_none xs i d h

pub record Mapped (X Y : Type 0) (f : X → Y) (xs : List X) (k : ℕ) (y : Y) : Type 0 where
  pub from : X
  pub get : slice_get xs k ≡ Some from
  pub is : f from ≡ y

pub get_map : {X Y : Type 0} (f : X → Y) (xs : List X) (k : ℕ) (y : Y) → slice_get (map f xs) k ≡ Some y → Mapped X Y f xs k y
get_map f [] k y h = absurd (cc)
get_map f (x ∷ xs) zero y h = record { from = x; get = refl; is = (let e : f x ≡ y = cc in e) }
get_map f (x ∷ xs) (suc k) y h = let m = get_map f xs k y h in record { from = m.from; get = m.get; is = m.is }

-- no connection serves these sockets
abbrev pub Free : Sockets → List Connection → Type 0
Free p table = (k : ℕ) (x : Connection) → slice_get table k ≡ Some x → serves p x ≡ false

-- at most one connection serves a pair of sockets
abbrev pub Single : List Connection → Type 0
Single table = (p : Sockets) (i j : ℕ) (x y : Connection) → slice_get table i ≡ Some x → slice_get table j ≡ Some y → serves p x ≡ true
    → serves p y ≡ true → i ≡ j

single_tail : (c : Connection) (cs : List Connection) → Single (c ∷ cs) → Single cs
single_tail c cs h = λ p i j x y a b u v. (let e : suc i ≡ suc j = h p (suc i) (suc j) x y a b u v in omega arith)

pub serving_is : (table : List Connection) (p : Sockets) (i : ℕ) (x : Connection) → Single table → slice_get table i ≡ Some x
    → serves p x ≡ true → serving p table ≡ x
serving_is [] p i x h g s = absurd (cc)
serving_is (c ∷ cs) p zero x h g s = let e : c ≡ x = cc in ap (λ b. if b then c else serving p cs) (ap (serves p) e ∙ s) ∙ e
serving_is (c ∷ cs) p (suc i) x h g s =
    both_ways (serves p c)
    (λ e. absurd (let z : zero ≡ suc i = h p zero (suc i) c x refl g e s in omega arith))
    (λ e. ap (λ b. if b then c else serving p cs) e ∙ serving_is cs p i x (single_tail c cs h) g s)

pub serving_free : (table : List Connection) (p : Sockets) → Free p table → serving p table ≡ closed
serving_free [] p h = refl
serving_free (c ∷ cs) p h = ap (λ b. if b then c else serving p cs) (h zero c refl) ∙ serving_free cs p (λ k x g. h (suc k) x g)

pub data Served (p : Sockets) (table : List Connection) : Type 0 where
  served : (i : ℕ) → slice_get table i ≡ Some (serving p table) → serves p (serving p table) ≡ true → Served p table
  free : Free p table → Served p table

free_more : (p : Sockets) (c : Connection) (cs : List Connection) → serves p c ≡ false → Free p cs → Free p (c ∷ cs)
free_more p c cs e f zero x g = let z : c ≡ x = cc in subst (λ y. serves p y ≡ false) z e
free_more p c cs e f (suc k) x g = f k x g

pub is_served : (p : Sockets) (table : List Connection) → Served p table
is_served p [] = free (λ k x g. absurd (cc))
is_served p (c ∷ cs) =
    both_ways (serves p c)
    (λ e. let q : serving p (c ∷ cs) ≡ c = ap (λ b. if b then c else serving p cs) e in served zero (ap Some (sym q)) (ap (serves p) q ∙ e))
    (λ e. let q : serving p (c ∷ cs) ≡ serving p cs = ap (λ b. if b then c else serving p cs) e in
    elim (is_served p cs) [
      | served i g s ↦ served (suc i) (g ∙ ap Some (sym q)) (ap (serves p) q ∙ s)
      | free f ↦ free (free_more p c cs e f)
    ])

-- the result of the search for a connection
pub data Finds (p : Sockets) (at : ℕ) (table : List Connection) (found : Option ℕ) : Type 0 where
  finds : (i : ℕ) → found ≡ Some (at + i) → slice_get table i ≡ Some (serving p table) → serves p (serving p table) ≡ true → Finds p at table found
  finds_none : found ≡ None → Free p table → Finds p at table found

find_from : (at : ℕ) (p : Sockets) (table : List Connection) → Finds p at table (position_from (serves p) at table)
find_from at p [] = finds_none refl (λ k x g. absurd (cc))
find_from at p (c ∷ cs) =
    both_ways (serves p c)
    (λ e. let q : serving p (c ∷ cs) ≡ c = ap (λ b. if b then c else serving p cs) e in
    finds zero (ap (λ b. cond b (Some at) (position_from (serves p) (at + 1) cs)) e ∙ ap Some (omega arith)) (ap Some (sym q)) (ap (serves p) q ∙ e))
    (λ e. let q : serving p (c ∷ cs) ≡ serving p cs = ap (λ b. if b then c else serving p cs) e in
    let w : position_from (serves p) at (c ∷ cs) ≡ position_from (serves p) (at + 1) cs = ap (λ b. cond b (Some at) (position_from (serves p) (at + 1) cs)) e in
    elim (find_from (at + 1) p cs) [
      | finds i f g s ↦ finds (suc i) (w ∙ f ∙ ap Some (omega arith)) (g ∙ ap Some (sym q)) (ap (serves p) q ∙ s)
      | finds_none f g ↦ finds_none (w ∙ f) (free_more p c cs e g)
    ])

pub find_is : (p : Sockets) (table : List Connection) → Finds p 0 table (position (serves p) table)
find_is p table = subst (λ x. Finds p 0 table x) (sym (position_from-zero (serves p) table)) (find_from 0 p table)

-- a slot is written
module _ (table : List Connection) (single : Single table) (i : ℕ) (old : Connection) (at : slice_get table i ≡ Some old) (new : Connection)
    (owns : (p : Sockets) → serves p new ≡ true → (j : ℕ) (y : Connection) → slice_get table j ≡ Some y → serves p y ≡ true → j ≡ i) where
  pub single_set : Single (set table i new)
  single_set p j k x y a b u v =
      elim (get_set table i new j x a) [
        | here e f ↦ elim (get_set table i new k y b) [
          | here e' f' ↦ e ∙ sym e'
          | there n' g' ↦ absurd (n' (owns p (ap (serves p) f ∙ u) k y g' v))
        ]
        | there n g ↦ elim (get_set table i new k y b) [
          | here e' f' ↦ absurd (n (owns p (ap (serves p) f' ∙ v) j x g u))
          | there n' g' ↦ single p j k x y g g' u v
        ]
      ]

  pub serving_new : (p : Sockets) → serves p new ≡ true → serving p (set table i new) ≡ new
  serving_new p s = serving_is (set table i new) p i new single_set (get_set_same table i old new at) s

  pub serving_gone : (p : Sockets) → serves p old ≡ true → serves p new ≡ false → serving p (set table i new) ≡ closed
  serving_gone p s n = serving_free (set table i new) p
      (λ k x g. elim (get_set table i new k x g) [
        | here e f ↦ ap (serves p) (sym f) ∙ n
        | there m h ↦ both_ways (serves p x) (λ u. absurd (m (single p k i x old h at u s))) (λ u. u)
      ])

  pub serving_other : (p : Sockets) → serves p old ≡ false → serves p new ≡ false → serving p (set table i new) ≡ serving p table
  serving_other p s n =
      elim (is_served p table) [
        | served j g u ↦ (let m : j ≡ i → ⊥ = λ e. (let z : Some old ≡ Some (serving p table) = sym at ∙ ap (slice_get table) (sym e) ∙ g in
            let y : serves p old ≡ true = (let q : old ≡ serving p table = cc in ap (serves p) q ∙ u) in absurd (cc)) in
            serving_is (set table i new) p j (serving p table) single_set (get_set_other table i new j m ∙ g) u)
        | free f ↦ serving_free (set table i new) p (λ k x g. elim (get_set table i new k x g) [
          | here e h ↦ ap (serves p) (sym h) ∙ n
          | there m h ↦ f k x h
        ]) ∙ sym (serving_free table p f)
      ]

-- a table of closed connections serves nobody
pub all_closed : (n k : ℕ) (x : Connection) → slice_get (replicate n closed) k ≡ Some x → closed ≡ x
all_closed zero k x h = absurd (cc)
all_closed (suc n) zero x h = let e : closed ≡ x = cc in e
all_closed (suc n) (suc k) x h = all_closed n k x h

pub none_serves : (n : ℕ) (p : Sockets) → Free p (replicate n closed)
none_serves n p k x h = ap (serves p) (sym (all_closed n k x h))
