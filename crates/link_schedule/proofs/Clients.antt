-- One more client of a schedule: each of its refusals, and what follows it.
use Rattle.link_schedule.proofs.Prelude.{◌≡◌, ℕ, ◌<◌, ◌≤◌, Bool, true, false, cond, List, [], ◌∷◌, ◌++◌, length, Ok, Err, refl, ◌∙◌, arith}
use Rattle.link_schedule.proofs.Prelude.{leb, list_any, le-leb, leb-true, Line, Clients, Ports, Plan, meets, with_plan, content_of}

chosen : {A : Type 0} (b : Bool) (x y : A) → b ≡ true → cond b x y ≡ x
chosen true x y e = refl
chosen false x y e = cc e

other : {A : Type 0} (b : Bool) (x y : A) → b ≡ false → cond b x y ≡ y
other true x y e = cc e
other false x y e = refl

not_le : (a b : ℕ) → b < a → leb a b ≡ false
not_le a b h =
    elim (leb a b) as (λ v. leb a b ≡ v → v ≡ false)
    [ true ↦ λ q. (let le = leb-true a b q in absurd (omega (arith, le, h))) | false ↦ λ q. refl ] refl

pub too_many : (clients : List Plan) (lines : List Line) (plan : Plan) → 64 ≤ length clients
    → with_plan (content_of clients lines) plan ≡ Err Clients
unfolding with_plan
too_many clients lines plan e = chosen (leb 64 (length clients)) _ _ (le-leb 64 (length clients) e)

pub taken : (clients : List Plan) (lines : List Line) (plan : Plan) → length clients < 64
    → list_any (λ earlier. meets earlier plan) clients ≡ true
    → with_plan (content_of clients lines) plan ≡ Err Ports
unfolding with_plan
taken clients lines plan e t =
    other (leb 64 (length clients)) _ _ (not_le 64 (length clients) e) ∙ chosen (list_any (λ earlier. meets earlier plan) clients) _ _ t

pub added : (clients : List Plan) (lines : List Line) (plan : Plan) → length clients < 64
    → list_any (λ earlier. meets earlier plan) clients ≡ false
    → with_plan (content_of clients lines) plan ≡ Ok (content_of (clients ++ plan ∷ []) lines)
unfolding with_plan
added clients lines plan e t =
    other (leb 64 (length clients)) _ _ (not_le 64 (length clients) e) ∙ other (list_any (λ earlier. meets earlier plan) clients) _ _ t
