use Rattle.file_tree.proofs.Prelude.{drop, arith, ◌∙◌, length-take}
use Rattle.file_tree.proofs.LoadLemmas.{loading-stops, loading-full, loading-more}
use Rattle.file_tree.proofs.shelf_reader.read_file.Goals as goal
use Rattle.file_tree.proofs.shelf_reader.read_file.Goals.{else-loop-block-test, then-loop-block-test+in-Ok+then-count-eq0}

pub returns-clause-bytes : goal.returns-clause-bytes
returns-clause-bytes g c =
    let short = c.loop-block.invariant.short in
    let held = g.H.Shelf.held c.args.shelf.now in
    let bytes = c.loop-block.bytes.items in
    elim c.loop-block-test.branch [
      | else-loop-block-test w ↦
          loading-full c.args.limit held c.args.name.now bytes c.loop-block.invariant.prefix
          (omega (arith, short, w.loop-block-test.false, c.len.ensures, c.loop-block.bytes.ok.0))
      | then-loop-block-test+in-Ok+then-count-eq0 w ↦
          loading-stops c.args.limit held (g.H.Shelf.held c.loop-block.shelf) (g.H.Shelf.faults c.args.shelf.now)
          (g.H.Shelf.faults c.loop-block.shelf) c.args.name.now bytes w.read.new.buf
          w.len-in-loop-block-2.result w.in-Ok.count c.loop-block.invariant w.in-Ok.ensures.bytes (w.len-in-loop-block-2.ensures
          ∙ c.loop-block.bytes.ok.0) w.if-count-eq0.true
    ]

pub loop-block-preserved : goal.loop-block-preserved
loop-block-preserved g c =
    let bytes = c.loop-block.bytes.items in
    loading-more c.args.limit (g.H.Shelf.held c.args.shelf.now) (g.H.Shelf.held c.loop-block.shelf) (g.H.Shelf.held c.read.new.self)
    (g.H.Shelf.faults c.args.shelf.now) (g.H.Shelf.faults c.loop-block.shelf) (g.H.Shelf.faults c.read.new.self) c.args.name.now
    bytes c.read.new.buf (drop c.min-room.result c.loop-block.block) c.extend_from_slice.new.self.items c.len-in-loop-block-2.result c.in-Ok.count
    c.loop-block.invariant c.in-Ok.ensures.bytes (c.len-in-loop-block-2.ensures ∙ c.loop-block.bytes.ok.0) c.in-Ok.ensures.within
    (omega (
      arith,
      c.in-Ok.ensures.within,
      c.read.auto.buf,
      length-take c.min-room.result c.loop-block.block,
      c.min-room.ensures,
      c.len-in-loop-block.ensures,
      c.loop-block.bytes.ok.0,
      c.len.ensures,
      c.loop-block-test.true,
    )) c.read.ensures.kept c.in-Ok.ensures.cause.same c.in_ok-extend_from_slice.ensures.items
