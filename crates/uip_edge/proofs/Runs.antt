-- The bytes before the first silence.
use Rattle.uip_edge.proofs.Prelude.{◌≡◌, ℕ, ◌+◌, ◌≤◌, ◌<◌, List, [], ◌∷◌, ◌++◌, take, drop, length, map, get_or, refl, sym, ap, ◌∙◌, arith}
use Rattle.uip_edge.proofs.Prelude.{min, nat_lt, true, false, take-append-drop, drop_more, drop_all, length-take-le, drop-drop, ltb-true}
use Rattle.uip_edge.proofs.Prelude.{ltb-false, Item, Byte, Quiet, byte_run}

byte_run-append : (bs : List ℕ) (rest : List Item) → byte_run (map Byte bs ++ rest) ≡ byte_run rest + length bs
byte_run-append [] rest = omega arith
byte_run-append (b ∷ bs) rest = omega (arith, byte_run-append bs rest)

-- the first items are these bytes
split_run : (at : ℕ) (items : List Item) (bs : List ℕ) → take at items ≡ map Byte bs → byte_run items ≡ byte_run (drop at items) + length bs
split_run at items bs e =
    ap (λ l. byte_run l) (sym (take-append-drop at items) ∙ ap (λ l. l ++ drop at items) e) ∙ byte_run-append bs (drop at items)

-- a run that reaches a silence, or the end of the items or of the room
pub run_to_quiet : (at : ℕ) (items : List Item) (buf : List ℕ) (d : Item) → take at items ≡ map Byte (take at buf) → at ≤ length buf
    → at < length items → get_or items at d ≡ Quiet → byte_run items ≡ at
run_to_quiet at items buf d e room inside quiet =
    let rest : drop at items ≡ Quiet ∷ drop (at + 1) items = drop_more items at d inside ∙ ap (λ x. x ∷ drop (at + 1) items) quiet in
    let none : byte_run (drop at items) ≡ 0 = ap (λ l. byte_run l) rest in
    omega (arith, split_run at items (take at buf) e, length-take-le at buf room, none)

pub run_to_end : (items : List Item) (buf : List ℕ) (at room : ℕ) → at ≡ room → room ≡ min (length buf) (length items)
    → take at items ≡ map Byte (take at buf) → room ≡ min (length buf) (byte_run items)
run_to_end items buf at room same most e =
    let is : at ≡ min (length buf) (length items) = same ∙ most in
    sym same ∙
    let fits : at ≤ length buf = omega (arith, is) in
    let split : byte_run items ≡ byte_run (drop at items) + at =
    split_run at items (take at buf) e ∙ ap (λ n. byte_run (drop at items) + n) (length-take-le at buf fits) in
    elim (nat_lt (length buf) (length items)) as (λ b. nat_lt (length buf) (length items) ≡ b → at ≡ min (length buf) (byte_run items)) [
      | true ↦ λ short. let less : length buf < length items = ltb-true _ _ short in omega (arith, is, split, less)
      | false ↦ λ long.
          let ends : length items ≤ length buf = ltb-false _ _ long in
          let none : byte_run (drop at items) ≡ 0 = ap (λ l. byte_run l) (drop_all at items (omega (arith, is, ends))) in
          let here : byte_run items ≡ at = omega (arith, split, none) in
          omega (arith, is, here, ends)
    ] refl

-- what a call took is gone from what is still to come
pub rest_moved : (at n k : ℕ) (all left part xs : List Item) → left ≡ drop at all → part ≡ drop at all → n ≡ k → take k part ≡ xs
    → left ≡ xs ++ drop (at + n) all
rest_moved at n k all left part xs is same count took =
    is ∙ sym (take-append-drop n (drop at all))
    ∙ ap (λ l. l ++ drop n (drop at all)) (ap (λ m. take m (drop at all)) count ∙ ap (λ l. take k l) (sym same) ∙ took)
    ∙ ap (λ l. xs ++ l) (drop-drop n at all)
