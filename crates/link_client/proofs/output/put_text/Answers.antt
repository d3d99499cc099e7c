-- The text is at its offset, and all after it is unchanged.
use Rattle.link_client.proofs.Prelude.{ℕ, ◌≡◌, ◌+◌, ◌-◌, ◌≤◌, List, ◌++◌, take, drop, length, slice_range, ap, ◌∙◌, arith, drop_at}
use Rattle.link_client.proofs.Prelude.{length-take-le, drop-put_mid, take-append_seam}
use borrow.Rule.Slice.PartMut.{post_of, put_mid}
use Rattle.link_client.proofs.output.put_text.Goals as goal

put : (area copied text : List ℕ) → 40 + length text ≤ length area → copied ≡ text
    → slice_range (put_mid 40 (40 + length text - 40) area copied) 40 (40 + length text) ≡ text
put area copied text fits same =
    let len : ℕ = 40 + length text - 40 in
    let n : len ≡ length text = omega arith in
    ap (λ (l : List ℕ). take len (drop 40 (put_mid 40 len area l))) same
    ∙ ap (take len) (drop_at (take 40 area) (text ++ post_of 40 len area) 40 (length-take-le 40 area (omega arith)))
    ∙ ap (λ (k : ℕ). take k (text ++ post_of 40 len area)) n
    ∙ take-append_seam text (post_of 40 len area)

pub returns-clause-text : goal.returns-clause-text
returns-clause-text c = put c.args.area.now c.copy_from_slice.new.self c.args.text.now c.requires c.copy_from_slice.ensures.after

kept : (area copied text : List ℕ) → 40 + length text ≤ length area → copied ≡ text
    → drop (40 + length text) (put_mid 40 (40 + length text - 40) area copied) ≡ drop (40 + length text) area
kept area copied text fits same =
    let n : length copied ≡ length text = ap (λ (l : List ℕ). length l) same in
    drop-put_mid 40 (40 + length text - 40) area copied (40 + length text) (omega arith) (omega (arith, fits)) (omega (arith, n))

pub returns-clause-trailing : goal.returns-clause-trailing
returns-clause-trailing c = kept c.args.area.now c.copy_from_slice.new.self c.args.text.now c.requires c.copy_from_slice.ensures.after
