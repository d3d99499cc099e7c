use Rattle.file_tree.proofs.Prelude.{◌+◌, arith, One, listed}
use Rattle.file_tree.proofs.SizeLemmas.{size-more, image-size, entries-le}
use Rattle.file_tree.proofs.packer.packed_len.Goals as goal

pub returns-then-size-gt-LONGEST_IMAGE-clause-long : goal.returns-then-size-gt-LONGEST_IMAGE-clause-long
returns-then-size-gt-LONGEST_IMAGE-clause-long c =
    let list = c.args.list.now in
    let more = size-more list c.loop-entry.entry-index c.entry-item.result c.loop-entry-test.true c.entry-item.is in
    omega (
      arith,
      more,
      image-size One (listed list),
      entries-le One (listed list) (c.loop-entry.entry-index + 1),
      c.loop-entry.invariant.0,
      c.entry_len.ensures,
      c.saturating_add-size.ensures,
      c.if-size-gt-LONGEST_IMAGE.true,
    )

pub loop-entry-preserved : goal.loop-entry-preserved
loop-entry-preserved c =
    let list = c.args.list.now in
    let more = size-more list c.loop-entry.entry-index c.entry-item.result c.loop-entry-test.true c.entry-item.is in (
      omega (arith, more, c.loop-entry.invariant.0, c.entry_len.ensures, c.saturating_add-size.ensures, c.if-size-gt-LONGEST_IMAGE.false),
      c.if-size-gt-LONGEST_IMAGE.false,
    )
