-- Words of no form's length.
use Rattle.link_schedule.proofs.Prelude.{◌≡◌, ◌≤◌, List, [], ◌∷◌, ℕ, map, length, Err, refl, arith, plan_of, event_of_words, Form}

pub no_event : {A : Type 0} (f : A → List ℕ) (clients : ℕ) (words : List A) → 5 ≤ length words → Err Form ≡ event_of_words clients (map f words)
no_event f clients [] h = absurd (omega arith)
no_event f clients (a ∷ []) h = absurd (omega arith)
no_event f clients (a ∷ b ∷ []) h = absurd (omega arith)
no_event f clients (a ∷ b ∷ c ∷ []) h = absurd (omega arith)
no_event f clients (a ∷ b ∷ c ∷ d ∷ []) h = absurd (omega arith)
no_event f clients (a ∷ b ∷ c ∷ d ∷ e ∷ words) h = refl

pub no_plan : {A : Type 0} (f : A → List ℕ) (words : List A) → (length words ≡ 6 → ⊥) → plan_of (map f words) ≡ Err Form
no_plan f [] h = refl
no_plan f (a ∷ []) h = refl
no_plan f (a ∷ b ∷ []) h = refl
no_plan f (a ∷ b ∷ c ∷ []) h = refl
no_plan f (a ∷ b ∷ c ∷ d ∷ []) h = refl
no_plan f (a ∷ b ∷ c ∷ d ∷ e ∷ []) h = refl
no_plan f (a ∷ b ∷ c ∷ d ∷ e ∷ g ∷ []) h = absurd (h (omega arith))
no_plan f (a ∷ b ∷ c ∷ d ∷ e ∷ g ∷ i ∷ words) h = refl
