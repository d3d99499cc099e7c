-- `Fixed` keeps the laws of an application.
use Rattle.std.specs.Prelude.{ℕ, ◌≡◌, ◌<◌, ◌-◌, List, [], ◌∷◌, ◌++◌, length, drop, true, false, if◌then◌else◌, nat_lt}
use Rattle.std.proofs.Common.{refl, arith, sym, ◌∙◌, append-nil}
use Rattle.std.proofs.lemmas.Bool.{ltb-true}
use Rattle.app_events.specs.AppSpec.{AppState, text_left}
use Rattle.app_events.specs.Laws.{IsLawful, StartsAnew, IsPrefixOf, CanSend}
use Rattle.app_events.specs.FixedSpec.{fixed_spec, fixed_text, hello, some_received, fixed_want, FixedRepresents}
use Rattle.app_events.specs.declared.fixed.Fixed.{Fixed}
use Rattle.app_events.specs.declared.want.Want.TheVariants.{Send, Close}

more_received : (xs ys : List ℕ) → IsPrefixOf (fixed_text xs) (fixed_text (xs ++ ys))
more_received [] ys = record { rest = fixed_text ys; joined = refl }
more_received (x ∷ xs) ys = record { rest = []; joined = refl }

can_send : (xs : List ℕ) (acked : ℕ) → CanSend (fixed_want (length (fixed_text xs)) acked) (length (drop acked (fixed_text xs)))
can_send [] acked = tt
can_send (x ∷ xs) acked =
    elim (nat_lt acked 6) as (λ b. nat_lt acked 6 ≡ b → CanSend (if b then Send (6 - acked) else Close) (length (drop acked hello))) [
      | true ↦ λ e. (let l : acked < 6 = ltb-true acked 6 e in
          (omega arith, omega (arith, Rattle.std.proofs.Common.length-drop acked hello)))
      | false ↦ λ e. tt
    ] refl

pub fixed_lawful : (a : Fixed) → IsLawful fixed_spec (FixedRepresents a)
fixed_lawful a = record {
  newdata_grows = λ ns p piece s. record { text = more_received p.input piece; offset = refl };
  prepare_grows = λ ns p now s. record { text = record { rest = []; joined = append-nil (fixed_text p.input) }; offset = refl };
  acked_moves = λ ns p n s h. (refl, refl);
  polled_keeps = λ ns p s. (refl, refl);
  sends = λ ns p s. can_send p.input p.acked;
}

pub fixed_starts : StartsAnew fixed_spec
fixed_starts ns port = (refl, refl)

same_text : (xs ys : List ℕ) → some_received xs ≡ some_received ys → fixed_text xs ≡ fixed_text ys
same_text [] [] e = refl
same_text (x ∷ xs) (y ∷ ys) e = refl
same_text [] (y ∷ ys) e = cc
same_text (x ∷ xs) [] e = cc

pub fixed_same_left : (a : Fixed) (p q : AppState) → FixedRepresents a p → FixedRepresents a q
    → text_left fixed_spec p ≡ text_left fixed_spec q
fixed_same_left a p q s t =
    let e : p.acked ≡ q.acked = sym s.at ∙ t.at in
    let f : fixed_text p.input ≡ fixed_text q.input = same_text p.input q.input (sym s.input ∙ t.input) in
    cc
