-- The text that a value of an application can send, for each state that it represents.
use Rattle.app_events.proofs.Prelude.{ℕ, ◌≡◌, ◌≤◌, ◌+◌, List, [], length, sym, ap, subst, arith, ◌∙◌, append-nil, length-append}
use Rattle.app_events.proofs.Prelude.{length-drop, le_trans, ∥∥₁_elim, ∥∥₁_map, le_prop, AppState, AppSpec, text_left, IsRepresented}
use Rattle.app_events.proofs.Prelude.{CanSupply, IsLawful, IsPrefixOf, Grows, CanSend, Want, Send}

-- the text left is the same in all parts of a value
abbrev pub SameLeft : {A K : Type 0} → (K → AppSpec) → (A → K → AppState → Type 0) → Type 0
SameLeft {A} {K} m represented = (a : A) (k : K) (p q : AppState) → represented a k p → represented a k q → text_left (m k) p ≡ text_left (m k) q

pub can_supply_each : {A K : Type 0} (m : K → AppSpec) (represented : A → K → AppState → Type 0) → SameLeft m represented
    → (a : A) (k : K) (n : ℕ) → CanSupply m represented a k n → (p : AppState) → represented a k p → n ≤ length (text_left (m k) p)
can_supply_each m represented same a k n can p s =
    ∥∥₁_elim can le_prop (λ c. subst (λ (t : List ℕ). n ≤ length t) (same a k c.0 p c.1 s) c.2)

pub has_part : {A K : Type 0} (m : K → AppSpec) (represented : A → K → AppState → Type 0) (a : A) (k : K) (n : ℕ)
    → CanSupply m represented a k n → IsRepresented represented a k
has_part m represented a k n can = ∥∥₁_map can (λ c. (c.0, c.1))

pub can_nothing : {A K : Type 0} (m : K → AppSpec) (represented : A → K → AppState → Type 0) (a : A) (k : K) → IsRepresented represented a k
    → CanSupply m represented a k 0
can_nothing m represented a k has = ∥∥₁_map has (λ c. (c.0, c.1, omega arith))

-- each part of a gives one of b
abbrev pub Moves : {A K : Type 0} → (A → K → AppState → Type 0) → K → A → A → (AppState → AppState) → Type 0
Moves represented k a b f = (p : AppState) → represented a k p → represented b k (f p)

pub has_part_after : {A K : Type 0} (represented : A → K → AppState → Type 0) (k : K) (a b : A) (f : AppState → AppState)
    → Moves represented k a b f → IsRepresented represented a k → IsRepresented represented b k
has_part_after represented k a b f moves has = ∥∥₁_map has (λ c. (f c.0, moves c.0 c.1))

pub left_grows : (m : AppSpec) (p q : AppState) → Grows m p q → length (text_left m p) ≤ length (text_left m q)
left_grows m p q g =
    let e : length (m.output p) + length g.text.rest ≡ length (m.output q) = sym (length-append (m.output p) g.text.rest)
    ∙ ap (λ (xs : List ℕ). length xs) g.text.joined in
    omega (arith, e, g.offset, length-drop p.acked (m.output p), length-drop q.acked (m.output q))

pub can_supply_after : {A K : Type 0} (m : K → AppSpec) (represented : A → K → AppState → Type 0) (k : K) (a b : A) (f : AppState
    → AppState) (n : ℕ) → Moves represented k a b f → ((p : AppState) → represented a k p → Grows (m k) p (f p))
    → CanSupply m represented a k n → CanSupply m represented b k n
can_supply_after m represented k a b f n moves grows can =
    ∥∥₁_map can (λ c. (f c.0, moves c.0 c.1, le_trans c.2 (left_grows (m k) c.0 (f c.0) (grows c.0 c.1))))

pub grows_by_nothing : (m : AppSpec) (p q : AppState) → m.output q ≡ m.output p → q.acked ≡ p.acked → Grows m p q
grows_by_nothing m p q e o = record {
  text = (let t : IsPrefixOf (m.output p) (m.output q) =
      record { rest = []; joined = append-nil (m.output p) ∙ sym e } in t);
  offset = o;
}

-- what is requested to be sent is there
pub can_supply_wanted : {A K : Type 0} (m : K → AppSpec) (represented : A → K → AppState → Type 0) (a : A) (k : K) (ns : List ℕ) (n : ℕ)
    → IsLawful (m k) (represented a k) → IsRepresented represented a k → ((p : AppState) → represented a k p → Send n ≡ (m k).want ns p)
    → CanSupply m represented a k n
can_supply_wanted m represented a k ns n lawful has asked =
    ∥∥₁_map has (λ c. (c.0, c.1, (subst (λ (w : Want). CanSend w (length (text_left (m k) c.0))) (sym (asked c.0 c.1)) (lawful.sends ns c.0 c.1)).1))

pub can_less : {A K : Type 0} (m : K → AppSpec) (represented : A → K → AppState → Type 0) (a : A) (k : K) (n j : ℕ) → j ≤ n
    → CanSupply m represented a k n → CanSupply m represented a k j
can_less m represented a k n j l can = ∥∥₁_map can (λ c. (c.0, c.1, le_trans l c.2))
