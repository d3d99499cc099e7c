use Rattle.device_values.proofs.Prelude.{◌≡◌, ℕ, ◌+◌, ◌-◌, List, ◌∷◌, ◌++◌, length, replicate, drop, ap, ◌∙◌, arith, drop-replicate}
use borrow.Rule.Slice.PartMut.{post_of}
use Rattle.device_values.proofs.values.row_of.Goals as goal

pub returns : goal.returns
returns c =
    let text : List ℕ = c.args.text.now in
    let n : ℕ = length text in
    let behind : List ℕ = post_of 1 (n + 1 - 1) (n ∷ replicate 32 0) in
    let same : n + 1 - 1 ≡ n = omega arith in
    ap (λ (l : List ℕ). n ∷ (l ++ behind)) c.copy_from_slice.ensures.after
    ∙ ap (λ (l : List ℕ). n ∷ (text ++ l)) (ap (λ k. drop k (replicate 32 0)) same ∙ drop-replicate n 32 0)
