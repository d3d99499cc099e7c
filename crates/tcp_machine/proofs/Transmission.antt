-- The text that a sound connection's application can still send.
-- [add: state] What the application can still send in it.
use Rattle.tcp_machine.proofs.Prelude.{ℕ, ◌≡◌, ◌≤◌, true, List, [], ◌∷◌, length, refl, subst, sym, AppState, AppSpec, IsRepresented}
use Rattle.tcp_machine.proofs.Prelude.{CanSupply, text_left, ∥∥₁_elim, le_prop, IsLawful, Grows, CanSend, Ghosts, Now, Want, Send, has_part}
use Rattle.tcp_machine.proofs.Prelude.{has_part_after, can_nothing, can_supply_after, grows_by_nothing, State, Conn, is_live, delivers_text}
use Rattle.tcp_machine.proofs.Prelude.{IsSound, is_open}
use Rattle.tcp_machine.proofs.States.{by_state}

pub has_part_of : {A S : Type 0} (g : Ghosts A S) (k : g.Config) (c : Conn A) → IsSound g k c → is_open c.state ≡ true → IsRepresented g.represents c.app k
has_part_of g k c sound open_to_it = has_part g.app_spec g.represents c.app k c.len (sound.says open_to_it)

receives_grows : (m : AppSpec) (represented : AppState → Type 0) → IsLawful m represented → (ns : List ℕ) (p : AppState) (piece : List ℕ)
    → represented p → Grows m p (delivers_text m ns p piece).part
receives_grows m represented lawful ns p [] s = grows_by_nothing m p p refl refl
receives_grows m represented lawful ns p (x ∷ xs) s = lawful.newdata_grows ns p (x ∷ xs) s

-- a delivery retracts no text
pub can_supply_received : {A K : Type 0} (m : K → AppSpec) (represented : A → K → AppState → Type 0) (k : K) (a b : A)
    → IsLawful (m k) (represented a k) → (ns piece : List ℕ) (n : ℕ) →
    ((p : AppState) → represented a k p → represented b k (delivers_text (m k) ns p piece).part) → CanSupply m represented a k n → CanSupply m represented b k n
can_supply_received m represented k a b lawful ns piece n moves can =
    can_supply_after m represented k a b (λ p. (delivers_text (m k) ns p piece).part) n moves (λ p s. receives_grows (m k) (represented a k)
    lawful ns p piece s) can

-- a value that represents some state has at least an empty text left
pub can_nothing_after : {A K : Type 0} (m : K → AppSpec) (represented : A → K → AppState → Type 0) (k : K) (a b : A) (f : AppState
    → AppState) → ((p : AppState) → represented a k p → represented b k (f p)) → IsRepresented represented a k → CanSupply m represented b k 0
can_nothing_after m represented k a b f moves has = can_nothing m represented b k (has_part_after represented k a b f moves has)

pub can_supply_prepared : {A K : Type 0} (m : K → AppSpec) (represented : A → K → AppState → Type 0) (k : K) (a b : A)
    → IsLawful (m k) (represented a k) → (ns : List ℕ) (now : Now) (n : ℕ) →
    ((p : AppState) → represented a k p → represented b k ((m k).prepare ns p now)) → CanSupply m represented a k n → CanSupply m represented b k n
can_supply_prepared m represented k a b lawful ns now n moves can =
    can_supply_after m represented k a b (λ p. (m k).prepare ns p now) n moves (λ p s. lawful.prepare_grows ns p now s) can

pub can_supply_polled : {A K : Type 0} (m : K → AppSpec) (represented : A → K → AppState → Type 0) (k : K) (a b : A)
    → IsLawful (m k) (represented a k) → (ns : List ℕ) (n : ℕ) →
    ((p : AppState) → represented a k p → represented b k ((m k).polled ns p).part) → CanSupply m represented a k n → CanSupply m represented b k n
can_supply_polled m represented k a b lawful ns n moves can =
    can_supply_after m represented k a b (λ p. ((m k).polled ns p).part) n moves
    (λ p s. grows_by_nothing (m k) p ((m k).polled ns p).part (lawful.polled_keeps ns p s).0 (lawful.polled_keeps ns p s).1) can

-- what is asked to be sent is at least one byte
pub sends_some : {A K : Type 0} (m : K → AppSpec) (represented : A → K → AppState → Type 0) (k : K) (a : A)
    → IsLawful (m k) (represented a k) → (ns : List ℕ) (n : ℕ) → IsRepresented represented a k →
    ((p : AppState) → represented a k p → Send n ≡ (m k).want ns p) → 1 ≤ n
sends_some m represented k a lawful ns n has asked =
    ∥∥₁_elim has le_prop (λ c. (subst (λ (w : Want). CanSend w (length (text_left (m k) c.0))) (sym (asked c.0 c.1)) (lawful.sends ns c.0 c.1)).0)

-- where the application may speak the connection lives
pub open_lives : (s : State) → is_open s ≡ true → is_live s ≡ true
open_lives s = by_state (λ x. is_open x ≡ true → is_live x ≡ true) (λ e. cc) (λ e. refl) (λ e. refl) (λ e. refl) (λ e. refl) (λ e. refl)
    (λ e. refl) (λ e. refl) (λ e. refl) s
