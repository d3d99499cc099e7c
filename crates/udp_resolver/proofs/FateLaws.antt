-- How the answers to questions grow with events.
use Rattle.udp_resolver.proofs.Prelude.{◌≡◌, ℕ, zero, suc, ◌+◌, ◌<◌, ◌≤◌, Bool, true, false, not, ◌&&◌, ◌||◌, cond, eqb, if◌then◌else◌}
use Rattle.udp_resolver.proofs.Prelude.{List, [], ◌∷◌, ◌++◌, map, refl, sym, ap, ◌∙◌, arith, Option, None, Some, list_all, list_any}
use Rattle.udp_resolver.proofs.Prelude.{is_none, option_or, answer_to, Answer, open_ones, Question, all_settled, answer_among, fate_by}
use Rattle.udp_resolver.proofs.Prelude.{first_answer, before_silence, is_given_up, is_settled, silences, LineEvent, MediumInput, Silence}
use Rattle.udp_resolver.proofs.Prelude.{received_now, unanswered, unless_answered, Open, Timeout}
use Rattle.udp_resolver.proofs.EventLaws.{not_over, one_more, silences-append}

same_of : (a b : ℕ) → eqb a b ≡ true → a ≡ b
same_of a b e = grind arith

other_of : (a b : ℕ) → eqb a b ≡ false → (a ≡ b → ⊥)
other_of a b e = grind arith

clash : false ≡ true → ⊥
clash e = cc e

option_or-none : (a : Option Answer) → option_or a None ≡ a
option_or-none None = refl
option_or-none (Some a) = refl

option_or-assoc : (a b c : Option Answer) → option_or (option_or a b) c ≡ option_or a (option_or b c)
option_or-assoc None b c = refl
option_or-assoc (Some a) b c = refl

pub first_answer-append : (q : Question) (xs ys : List LineEvent) → first_answer q (xs ++ ys) ≡ option_or (first_answer q xs) (first_answer q ys)
first_answer-append q [] ys = refl
first_answer-append q (MediumInput datagram ∷ xs) ys =
    let a = answer_to q.asking q.text datagram in
    ap (λ o. option_or a o) (first_answer-append q xs ys) ∙ sym (option_or-assoc a (first_answer q xs) (first_answer q ys))
first_answer-append q (Silence ∷ xs) ys = first_answer-append q xs ys

-- all events are before a silence that did not occur
pub prefix_all : (n : ℕ) (xs : List LineEvent) → silences xs < n → before_silence n xs ≡ xs
prefix_all n [] h = refl
prefix_all n (MediumInput datagram ∷ xs) h = ap (λ l. MediumInput datagram ∷ l) (prefix_all n xs h)
prefix_all zero (Silence ∷ xs) h = absurd (omega arith)
prefix_all (suc zero) (Silence ∷ xs) h = absurd (omega arith)
prefix_all (suc (suc n)) (Silence ∷ xs) h = ap (λ l. Silence ∷ l) (prefix_all (suc n) xs (omega arith))

-- what comes after a silence is not before it
pub prefix_kept : (n : ℕ) (xs ys : List LineEvent) → 1 ≤ n → n ≤ silences xs → before_silence n (xs ++ ys) ≡ before_silence n xs
prefix_kept n [] ys some h = absurd (omega arith)
prefix_kept n (MediumInput datagram ∷ xs) ys some h = ap (λ l. MediumInput datagram ∷ l) (prefix_kept n xs ys some h)
prefix_kept zero (Silence ∷ xs) ys some h = absurd (omega arith)
prefix_kept (suc zero) (Silence ∷ xs) ys some h = refl
prefix_kept (suc (suc n)) (Silence ∷ xs) ys some h = ap (λ l. Silence ∷ l) (prefix_kept (suc n) xs ys (omega arith) (omega arith))

-- all others are before the last silence
pub prefix_last : (n : ℕ) (xs ys : List LineEvent) → silences xs + 1 ≡ n → before_silence n (xs ++ Silence ∷ ys) ≡ xs
prefix_last zero [] ys h = absurd (omega arith)
prefix_last (suc zero) [] ys h = refl
prefix_last (suc (suc n)) [] ys h = absurd (omega arith)
prefix_last n (MediumInput datagram ∷ xs) ys h = ap (λ l. MediumInput datagram ∷ l) (prefix_last n xs ys h)
prefix_last zero (Silence ∷ xs) ys h = absurd (omega arith)
prefix_last (suc zero) (Silence ∷ xs) ys h = absurd (omega arith)
prefix_last (suc (suc n)) (Silence ∷ xs) ys h = ap (λ l. Silence ∷ l) (prefix_last (suc n) xs ys (omega arith))

answer_now : (happened : List LineEvent) (q : Question) → is_given_up happened ≡ false → answer_among happened q ≡ first_answer q happened
answer_now happened q e = ap (λ l. first_answer q l) (prefix_all 249 happened (not_over happened e))

-- a datagram may answer a question that has no answer
pub answer_came : (happened : List LineEvent) (datagram : List ℕ) (q : Question) → is_given_up happened ≡ false
    → answer_among (happened ++ MediumInput datagram ∷ []) q ≡ option_or (answer_among happened q) (answer_to q.asking q.text datagram)
answer_came happened datagram q e =
    let a = answer_to q.asking q.text datagram in
    let short : silences (happened ++ MediumInput datagram ∷ []) < 249 = omega (
      arith,
      silences-append happened (MediumInput datagram ∷ []),
      not_over happened e,
    ) in
    ap (λ l. first_answer q l) (prefix_all 249 (happened ++ MediumInput datagram ∷ []) short)
    ∙ first_answer-append q happened (MediumInput datagram ∷ [])
    ∙ ap (λ o. option_or (first_answer q happened) o) (option_or-none a)
    ∙ ap (λ o. option_or o a) (sym (answer_now happened q e))

-- a silence answers nothing
pub answer_silence : (happened : List LineEvent) (q : Question) → is_given_up happened ≡ false
    → answer_among (happened ++ Silence ∷ []) q ≡ answer_among happened q
answer_silence happened q e =
    let low = not_over happened e in
    let next = happened ++ Silence ∷ [] in
    sym (answer_now happened q e ∙ sym (
    elim (eqb (silences happened + 1) 249) as (λ v. eqb (silences happened + 1) 249 ≡ v → answer_among next q ≡ first_answer q happened) [
      | true ↦ λ last. ap (λ l. first_answer q l) (prefix_last 249 happened [] (same_of (silences happened + 1) 249 last))
      | false ↦ λ other.
          ap (λ l. first_answer q l) (prefix_all 249 next (omega (arith, one_more happened, low, other_of (silences happened + 1) 249 other)))
          ∙ first_answer-append q happened (Silence ∷ []) ∙ option_or-none (first_answer q happened)
    ] refl))

pub received_map : (datagram : List ℕ) (happened : List LineEvent) (asked : List Question) → is_given_up happened ≡ false
    → received_now datagram asked (map (answer_among happened) asked) ≡ map (answer_among (happened ++ MediumInput datagram ∷ [])) asked
received_map datagram happened [] e = refl
received_map datagram happened (q ∷ asked) e =
    ap (λ a. a ∷ received_now datagram asked (map (answer_among happened) asked)) (sym (answer_came happened datagram q e))
    ∙ ap (λ l. answer_among (happened ++ MediumInput datagram ∷ []) q ∷ l) (received_map datagram happened asked e)

pub map_silence : (happened : List LineEvent) (asked : List Question) → is_given_up happened ≡ false
    → map (answer_among happened) asked ≡ map (answer_among (happened ++ Silence ∷ [])) asked
map_silence happened [] e = refl
map_silence happened (q ∷ asked) e =
    ap (λ a. a ∷ map (answer_among happened) asked) (sym (answer_silence happened q e))
    ∙ ap (λ l. answer_among (happened ++ Silence ∷ []) q ∷ l) (map_silence happened asked e)

open_by : (q : Question) (a : Option Answer) (is_over : Bool) (rest : List Question) → is_over ≡ false
    → unless_answered q a ++ rest ≡ cond (not (is_settled (fate_by a is_over))) (q ∷ rest) rest
open_by q None is_over rest e = sym (ap (λ b. cond (not (is_settled (if b then Timeout else Open))) (q ∷ rest) rest) e)
open_by q (Some a) is_over rest e = refl

-- the questions without an answer are the open ones, until all are given up
pub opens : (happened : List LineEvent) (asked : List Question) → is_given_up happened ≡ false
    → unanswered asked (map (answer_among happened) asked) ≡ open_ones asked happened
opens happened [] e = refl
opens happened (q ∷ asked) e =
    ap (λ l. unless_answered q (answer_among happened q) ++ l) (opens happened asked e)
    ∙ open_by q (answer_among happened q) (is_given_up happened) (open_ones asked happened) e

settled_over : (a : Option Answer) → is_settled (fate_by a true) ≡ true
settled_over None = refl
settled_over (Some a) = refl

all_over : (f : Question → Option Answer) (asked : List Question) → list_all (λ q. is_settled (fate_by (f q) true)) asked ≡ true
all_over f [] = refl
all_over f (q ∷ asked) =
    ap (λ b. b && list_all (λ q. is_settled (fate_by (f q) true)) asked) (settled_over (f q)) ∙ all_over f asked

one_open : (a : Option Answer) (any all : Bool) → any ≡ not all → (is_none a || any) ≡ not (is_settled (fate_by a false) && all)
one_open None any all e = refl
one_open (Some a) any all e = e

any_reported : (f : Question → Option Answer) (asked : List Question)
    → list_any is_none (map f asked) ≡ not (list_all (λ q. is_settled (fate_by (f q) false)) asked)
any_reported f [] = refl
any_reported f (q ∷ asked) = one_open (f q) (list_any is_none (map f asked)) _ (any_reported f asked)

-- a question is open where none is given up and one has no answer
pub open_reported : (is_over : Bool) (f : Question → Option Answer) (asked : List Question)
    → (not is_over && list_any is_none (map f asked)) ≡ not (list_all (λ q. is_settled (fate_by (f q) is_over)) asked)
open_reported true f asked = sym (ap not (all_over f asked))
open_reported false f asked = any_reported f asked

-- nothing is given up while a question is open
pub not_given_up : (happened : List LineEvent) (asked : List Question) → all_settled asked happened ≡ false → is_given_up happened ≡ false
not_given_up happened asked e =
    elim (is_given_up happened) as (λ v. is_given_up happened ≡ v → is_given_up happened ≡ false) [
      | true ↦ λ over.
          absurd (clash (sym (sym (ap (λ b. list_all (λ q. is_settled (fate_by (answer_among happened q) b)) asked) over
          ∙ all_over (answer_among happened) asked) ∙ e)))
      | false ↦ λ none. none
    ] refl
