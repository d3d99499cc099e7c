use Rattle.file_tree.proofs.Prelude.{◌≡◌, ℕ, List, ◌+◌, ◌-◌, ◌/◌, ap, sym, ◌∙◌, arith, nat_cmp, slice_cmp, Ordering, files_in, name_at}
use Rattle.file_tree.proofs.NameLemmas.{before-from-greater, same-from-equal}
use Rattle.file_tree.proofs.SearchLemmas.{search-above, search-below}
use Rattle.file_tree.proofs.index.search.Goals as goal

-- how the name in the middle compares
compares : (one middle name : List ℕ) (r s : Ordering) → one ≡ middle → r ≡ slice_cmp nat_cmp one name → r ≡ s → slice_cmp nat_cmp middle name ≡ s
compares one middle name r s is answer arm = ap (λ x. slice_cmp nat_cmp x name) (sym is) ∙ sym answer ∙ arm

pub loop-low-preserved-in-Less : goal.loop-low-preserved-in-Less
loop-low-preserved-in-Less c =
    let files = files_in c.args.image.now c.args.files.now in
    let middle : ℕ = c.loop-low.low + (c.loop-low.high - c.loop-low.low) / 2 in
    search-above files c.args.order.now c.args.name.now c.loop-low.low c.loop-low.high middle c.requires.order c.loop-low.invariant
    (omega arith) (omega (arith, c.loop-low-test.true))
    (compares c.name_in.result.now (name_at files c.args.order.now middle) c.args.name.now c.cmp.result _ c.name_in.ensures c.cmp.ensures c.in-Less.is)

pub returns-in-Equal-clause-found : goal.returns-in-Equal-clause-found
returns-in-Equal-clause-found c =
    let files = files_in c.args.image.now c.args.files.now in
    let middle : ℕ = c.loop-low.low + (c.loop-low.high - c.loop-low.low) / 2 in (
      omega (arith, c.loop-low-test.true, c.loop-low.invariant.within),
      same-from-equal (name_at files c.args.order.now middle) c.args.name.now
          (compares c.name_in.result.now (name_at files c.args.order.now middle) c.args.name.now c.cmp.result _ c.name_in.ensures c.cmp.ensures c.in-Equal.is),
    )

pub loop-low-preserved : goal.loop-low-preserved
loop-low-preserved c =
    let files = files_in c.args.image.now c.args.files.now in
    let middle : ℕ = c.loop-low.low + (c.loop-low.high - c.loop-low.low) / 2 in
    search-below files c.args.order.now c.args.name.now c.loop-low.low c.loop-low.high middle c.requires.order c.loop-low.invariant
    (omega arith) (omega (arith, c.loop-low-test.true))
    (before-from-greater (name_at files c.args.order.now middle) c.args.name.now
    (compares c.name_in.result.now (name_at files c.args.order.now middle) c.args.name.now c.cmp.result _ c.name_in.ensures c.cmp.ensures c.in-Greater.is))
