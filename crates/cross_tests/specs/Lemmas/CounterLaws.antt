-- `Counter` satisfies the laws of an application.
use Rattle.std.specs.Prelude.{ℕ, ◌≡◌, ◌<◌, ◌-◌, List, [], ◌∷◌, ◌++◌, length, drop, true, false, if◌then◌else◌, nat_lt}
use Rattle.std.proofs.Common.{refl, arith, sym, ◌∙◌, append-nil, length-drop, ap}
use Rattle.std.proofs.lemmas.Bool.{ltb-true}
use Rattle.app_events.specs.Prelude.{AppState, text_left, fixed_want, some_received, IsLawful, StartsAnew, IsPrefixOf, CanSend}
use Rattle.app_events.specs.declared.want.Want.TheVariants.{Send, Close}
use Rattle.cross_tests.specs.declared.counting.Counter.{Counter}
use Rattle.cross_tests.specs.CounterSpec.{CounterRepresents, counter_spec, counter_text, number_after}

more_received : (ns : List ℕ) (n : ℕ) (xs ys : List ℕ) → IsPrefixOf (counter_text n xs) (counter_text (number_after ns xs ys n) (xs ++ ys))
more_received ns n [] [] = record { rest = []; joined = refl }
more_received ns n [] (y ∷ ys) = record { rest = counter_text (number_after ns [] (y ∷ ys) n) (y ∷ ys); joined = refl }
more_received ns n (x ∷ xs) ys = record { rest = []; joined = refl }

can_send : (n : ℕ) (xs : List ℕ) (acked : ℕ)
    → CanSend (fixed_want (length (counter_text n xs)) acked) (length (drop acked (counter_text n xs)))
can_send n [] acked = tt
can_send n (x ∷ xs) acked =
    elim (nat_lt acked 2) as
    (λ b. nat_lt acked 2 ≡ b → CanSend (if b then Send (2 - acked) else Close) (length (drop acked (n ∷ 10 ∷ [])))) [
      | true ↦ λ e. (let l : acked < 2 = ltb-true acked 2 e in (omega arith, omega (arith, length-drop acked (n ∷ 10 ∷ []))))
      | false ↦ λ e. tt
    ] refl

pub counter_lawful : (a : Counter) → IsLawful counter_spec (CounterRepresents a)
counter_lawful a = record {
  newdata_grows = λ ns p piece s. record { text = more_received ns p.own p.input piece; offset = refl };
  prepare_grows = λ ns p now s. record { text = record { rest = []; joined = append-nil (counter_text p.own p.input) }; offset = refl };
  acked_moves = λ ns p n s h. (refl, refl);
  polled_keeps = λ ns p s. (refl, refl);
  sends = λ ns p s. can_send p.own p.input p.acked;
}

pub counter_starts : StartsAnew counter_spec
counter_starts ns port = (refl, refl)

same_text : (n : ℕ) (xs ys : List ℕ) → some_received xs ≡ some_received ys → counter_text n xs ≡ counter_text n ys
same_text n [] [] e = refl
same_text n (x ∷ xs) (y ∷ ys) e = refl
same_text n [] (y ∷ ys) e = cc
same_text n (x ∷ xs) [] e = cc

pub counter_same_left : (a : Counter) (p q : AppState) → CounterRepresents a p → CounterRepresents a q
    → text_left counter_spec p ≡ text_left counter_spec q
counter_same_left a p q s t =
    let e : p.acked ≡ q.acked = sym s.at ∙ t.at in
    let n : p.own ≡ q.own = sym s.number ∙ t.number in
    let f : counter_text p.own p.input ≡ counter_text q.own q.input =
    ap (λ k. counter_text k p.input) n ∙ same_text q.own p.input q.input (sym s.input ∙ t.input) in
    cc
