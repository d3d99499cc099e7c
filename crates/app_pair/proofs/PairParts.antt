-- The value of a pair by cases: it represents what the application in it represents.
use Rattle.std.proofs.Common.{◌≡◌, ℕ, ◌≤◌, Bool, true, false, if◌then◌else◌, List, [], ◌∷◌, ◌++◌, length, map, refl, sym, ap, ◌∙◌, subst}
use Rattle.std.proofs.Common.{arith}
use Rattle.std.proofs.lemmas.Bool.{le-ltb}
use Rattle.std.proofs.lemmas.List.{length-map}
use Rattle.std.proofs.Math.Logic.{∥∥₁_map}
use Rattle.app_events.specs.Prelude.{After, AppSpec, AppState, CanSupply, IsRepresented, Snapshot, text_left}
use Rattle.app_events.specs.declared.app.App.{Ghosts}
use Rattle.app_events.specs.declared.now.Now.{Now}
use Rattle.app_pair.specs.PairNumbers.{own_numbers, pair_numbers, with_own}
use Rattle.app_pair.specs.PairSpec.{CanBePaired, after_call, after_prepare, by_port, one_of_two, own_part, own_snapshot, spec_at}
use Rattle.app_pair.specs.PairRepresents.{PairRepresents, RepresentsOwn}
use Rattle.app_pair.specs.Lemmas.NumberLaws.{first_back, first_kept, second_back, second_kept}
use Rattle.app_pair.specs.Lemmas.PairLaws.{at_first, at_second, sees_after, sees_connected, sees_prepare}
use Rattle.app_pair.specs.declared.pair.AppPair.{AppPair}
use Rattle.app_pair.specs.declared.pair.AppPair.TheVariants as pair
use Rattle.app_pair.specs.declared.pair.PairShared.{PairShared}

-- ---- the numbers of one of two

abbrev own_of : Bool → List ℕ → List ℕ → List ℕ
own_of true xs ys = ys
own_of false xs ys = xs

-- the numbers of both, but these are its own
abbrev changed : Bool → List ℕ → List ℕ → List ℕ → List ℕ
changed true own xs ys = pair_numbers xs own
changed false own xs ys = pair_numbers own ys

own_back : (second : Bool) (xs ys : List ℕ) → own_numbers second (pair_numbers xs ys) ≡ own_of second xs ys
own_back true xs ys = second_back xs ys
own_back false xs ys = first_back xs ys

own_kept : (second : Bool) (own xs ys : List ℕ) → changed second own xs ys ≡ with_own second own (pair_numbers xs ys)
own_kept true own xs ys = second_kept own xs ys
own_kept false own xs ys = first_kept own xs ys

-- ---- one of two

-- What the two share: the ports of the second, the specification at each port, and the numbers of both.
pub record Both : Type 0 where
  pub served : ℕ → Bool
  pub at : ℕ → AppSpec
  pub xs : List ℕ
  pub ys : List ℕ

-- One of the two: the second, if `second` is true. At its ports the pair acts as it does.
pub record Side {A S : Type 0} (ghosts : Ghosts A S) (both : Both) : Type 0 where
  pub second : Bool
  pub k : ghosts.Config
  pub can : CanBePaired (ghosts.app_spec k)
  pub here : (port : ℕ) → both.served port ≡ second → both.at port ≡ one_of_two second (ghosts.app_spec k)

abbrev side_of : {A S : Type 0} (ghosts : Ghosts A S) (both : Both) (shared : S) → ((k : ghosts.Config) → CanBePaired (ghosts.app_spec k))
    → (second : Bool) → ((port : ℕ) → both.served port ≡ second → both.at port ≡ one_of_two second (ghosts.app_spec (ghosts.config shared))) → Side ghosts both
side_of ghosts both shared can second here = record { second = second; k = ghosts.config shared; can = can (ghosts.config shared); here = here }

module _ {A S : Type 0} {ghosts : Ghosts A S} {both : Both} (side : Side ghosts both) where
  abbrev spec : AppSpec
  spec = ghosts.app_spec side.k

  abbrev numbers : List ℕ
  numbers = pair_numbers both.xs both.ys

  abbrev seen : List ℕ
  seen = own_numbers side.second numbers

  abbrev own : List ℕ
  own = own_of side.second both.xs both.ys

  is : seen ≡ own
  is = own_back side.second both.xs both.ys

  abbrev see : AppState → AppState
  see p = own_part side.second p

  abbrev Own : A → AppState → Type 0
  Own a p = RepresentsOwn both.served side.second ghosts.represents a side.k p

  -- what holds of one of the two holds of the pair at its ports
  at_its : (P : AppSpec → Type 0) (port : ℕ) → both.served port ≡ side.second → P (one_of_two side.second spec) → P (both.at port)
  at_its P port e x = subst P (sym (side.here port e)) x

  pub begins : (new : A) (port : ℕ) → both.served port ≡ side.second → ghosts.represents new side.k (spec.connected own port).part
      → Own new ((both.at port).connected numbers port).part
  begins new port e h =
      at_its (λ (x : AppSpec). Own new (x.connected numbers port).part) port e
      (record {
        port = ap both.served (side.can.port.connected seen port) ∙ e;
        own = subst (λ (x : AppState). ghosts.represents new side.k x) (sym (sees_connected side.second spec side.can.snapshots numbers port))
            (subst (λ (l : List ℕ). ghosts.represents new side.k (spec.connected l port).part) (sym is) h);
      })

  pub opens : (after : List ℕ) (port : ℕ) → both.served port ≡ side.second → after ≡ (spec.connected own port).numbers
      → changed side.second after both.xs both.ys ≡ ((both.at port).connected numbers port).numbers
  opens after port e h =
      at_its (λ (x : AppSpec). changed side.second after both.xs both.ys ≡ (x.connected numbers port).numbers) port e
      (own_kept side.second after both.xs both.ys
      ∙ ap (λ z. with_own side.second z numbers) (h ∙ ap (λ z. (spec.connected z port).numbers) (sym is)))

-- ---- the value of a pair, which represents the states `Represents`: the value of one of the two is in it

pub record Held {A S : Type 0} (ghosts : Ghosts A S) (both : Both) (Represents : AppState → Type 0) : Type 0 where
  pub side : Side ghosts both
  pub value : A
  pub part : (p : AppState) → Represents p → RepresentsOwn both.served side.second ghosts.represents value side.k p

module _ {A S : Type 0} {ghosts : Ghosts A S} {both : Both} {Represents : AppState → Type 0} (held : Held ghosts both Represents) where
  abbrev mine : AppSpec
  mine = spec held.side

  abbrev Has : A → AppState → Type 0
  Has a p = ghosts.represents a held.side.k p

  by_its : (P : AppSpec → Type 0) (p : AppState) → Represents p → P (one_of_two held.side.second mine) → P (both.at p.port)
  by_its P p st x = at_its held.side P p.port (held.part p st).port x

  pub has : ∥ ((p : AppState) × Represents p) ∥₁ → IsRepresented ghosts.represents held.value held.side.k
  has some = ∥∥₁_map some (λ c. (see held.side c.0, (held.part c.0 c.1).own))

  pub can_send : (count : ℕ) → ∥ ((p : AppState) × Represents p × (count ≤ length (text_left (by_port both.at) p))) ∥₁
      → CanSupply ghosts.app_spec ghosts.represents held.value held.side.k count
  can_send count some = ∥∥₁_map some (λ c. (
    see held.side c.0,
    (held.part c.0 c.1).own,
    subst (λ (text : List ℕ). count ≤ length text)
        (by_its (λ (x : AppSpec). text_left x c.0 ≡ text_left mine (see held.side c.0)) c.0 c.1 refl) c.2,
  ))

  -- a call, as a function of the specification
  pub reports : {X : Type 0} (x : X) (call : AppSpec → List ℕ → AppState → X)
      → ((p : AppState) → call (one_of_two held.side.second mine) (numbers held.side) p ≡ call mine (seen held.side) (see held.side p))
      → ((p : AppState) → Has held.value p → x ≡ call mine (own held.side) p)
      → (p : AppState) → Represents p → x ≡ call (both.at p.port) (numbers held.side) p
  reports x call lifts h p st =
      by_its (λ (m : AppSpec). x ≡ call m (numbers held.side) p) p st
      (h (see held.side p) (held.part p st).own ∙ ap (λ (l : List ℕ). call mine l (see held.side p)) (sym (is held.side)) ∙ sym (lifts p))

  pub counts : (after : List ℕ) (call : AppSpec → List ℕ → AppState → List ℕ)
      → ((p : AppState) → call (one_of_two held.side.second mine) (numbers held.side) p
      ≡ with_own held.side.second (call mine (seen held.side) (see held.side p)) (numbers held.side))
      → ((p : AppState) → Has held.value p → after ≡ call mine (own held.side) p)
      → (p : AppState) → Represents p → changed held.side.second after both.xs both.ys ≡ call (both.at p.port) (numbers held.side) p
  counts after call lifts h p st =
      by_its (λ (m : AppSpec). changed held.side.second after both.xs both.ys ≡ call m (numbers held.side) p) p st
      (own_kept held.side.second after both.xs both.ys
      ∙ ap (λ z. with_own held.side.second z (numbers held.side))
      (h (see held.side p) (held.part p st).own ∙ ap (λ (l : List ℕ). call mine l (see held.side p)) (sym (is held.side)))
      ∙ sym (lifts p))

  pub moves : (new : A) (call : AppSpec → List ℕ → AppState → After)
      → ((p : AppState) → call (one_of_two held.side.second mine) (numbers held.side) p
      ≡ after_call held.side.second (numbers held.side) p.snapshots (call mine (seen held.side) (see held.side p)))
      → (CanBePaired mine → (l : List ℕ) (p : AppState) → ((call mine l p).part.port ≡ p.port) × ((call mine l p).part.snapshots ≡ p.snapshots))
      → ((p : AppState) → Has held.value p → Has new (call mine (own held.side) p).part)
      → (p : AppState) → Represents p → Own held.side new (call (both.at p.port) (numbers held.side) p).part
  moves new call lifts keeps h p st =
      let part = held.part p st in
      let kept = keeps held.side.can (seen held.side) (see held.side p) in
      let after : AppState = (call mine (seen held.side) (see held.side p)).part in
      by_its (λ (m : AppSpec). Own held.side new (call m (numbers held.side) p).part) p st
      (subst (λ (r : After). Own held.side new r.part) (sym (lifts p))
      (record {
        port = ap both.served kept.0 ∙ part.port;
        own = subst (λ (x : AppState). Has new x)
            (sym (sees_after held.side.second after p.snapshots kept.1))
            (subst (λ (l : List ℕ). Has new (call mine l (see held.side p)).part) (sym (is held.side)) (h (see held.side p) part.own));
      }))

  pub prepares : (new : A) (now : Now) → ((p : AppState) → Has held.value p → Has new (mine.prepare (own held.side) p now))
      → (p : AppState) → Represents p → Own held.side new ((both.at p.port).prepare (numbers held.side) p now)
  prepares new now h p st =
      let part = held.part p st in
      by_its (λ (m : AppSpec). Own held.side new (m.prepare (numbers held.side) p now)) p st
      (record {
        port = ap both.served (held.side.can.port.prepare (seen held.side) (see held.side p) now) ∙ part.port;
        own = subst (λ (x : AppState). Has new x) (sym (sees_prepare held.side.second mine held.side.can.snapshots (numbers held.side) p now))
            (subst (λ (l : List ℕ). Has new (mine.prepare l (see held.side p) now)) (sym (is held.side)) (h (see held.side p) part.own));
      })

  -- if an application changes nothing in `prepare`, nothing is changed
  nothing_captured : (p : AppState) (now : Now) → after_prepare (numbers held.side) p now (see held.side p) ≡ p
  nothing_captured p now =
      let more : List Snapshot = p.snapshots ++ record { numbers = numbers held.side; now = now } ∷ [] in
      ap (λ (b : Bool). record p { snapshots = if b then more else p.snapshots })
      (le-ltb (length p.snapshots) (length (map (own_snapshot held.side.second) p.snapshots))
      (omega (arith, length-map p.snapshots (own_snapshot held.side.second))))

  pub rests : (now : Now) → ((p : AppState) → Has held.value p → mine.prepare (own held.side) p now ≡ p)
      → (p : AppState) → Represents p → (both.at p.port).prepare (numbers held.side) p now ≡ p
  rests now h p st =
      by_its (λ (m : AppSpec). m.prepare (numbers held.side) p now ≡ p) p st
      (ap (λ (l : List ℕ). after_prepare (numbers held.side) p now (mine.prepare l (see held.side p) now)) (is held.side)
      ∙ ap (λ (q : AppState). after_prepare (numbers held.side) p now q) (h (see held.side p) (held.part p st).own) ∙ nothing_captured p now)

-- ---- the two of a pair

module _ {A B S T : Type 0} (firsts : Ghosts A S) (seconds : Ghosts B T) (can : (k : firsts.Config) → CanBePaired (firsts.app_spec k))
    (could : (k : seconds.Config) → CanBePaired (seconds.app_spec k)) (shared : PairShared S T) where
  abbrev k : firsts.Config
  k = firsts.config shared.first

  abbrev l : seconds.Config
  l = seconds.config shared.second

  abbrev both : Both
  both = record {
    served = seconds.served;
    at = spec_at seconds.served (firsts.app_spec k) (seconds.app_spec l);
    xs = firsts.numbers shared.first;
    ys = seconds.numbers shared.second;
  }

  abbrev pub first_side : Side firsts both
  first_side = side_of firsts both shared.first can false
      (λ port e. at_first seconds.served (firsts.app_spec k) (seconds.app_spec l) (λ (x : AppSpec). x ≡ one_of_two false (firsts.app_spec k)) port e refl)

  abbrev pub second_side : Side seconds both
  second_side = side_of seconds both shared.second could true
      (λ port e. at_second seconds.served (firsts.app_spec k) (seconds.app_spec l) (λ (x : AppSpec). x ≡ one_of_two true (seconds.app_spec l)) port e refl)

  module _ (d : AppPair A B) where
    abbrev Represents : AppPair A B → AppState → Type 0
    Represents e p = PairRepresents seconds.served firsts.represents seconds.represents e (k, l) p

    abbrev pub in_first : (a : A) → d ≡ pair.First a → Held firsts both (Represents d)
    in_first a e = record { side = first_side; value = a; part = λ p h. subst (λ (x : AppPair A B). Represents x p) e h }

    abbrev pub in_second : (b : B) → d ≡ pair.Second b → Held seconds both (Represents d)
    in_second b e = record { side = second_side; value = b; part = λ p h. subst (λ (x : AppPair A B). Represents x p) e h }
