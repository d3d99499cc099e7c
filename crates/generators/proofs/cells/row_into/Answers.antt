-- The parts are appended one after another.
use Rattle.generators.proofs.Prelude.{[], row_parts}
use Rattle.generators.proofs.Joining.{joined_is}
use Rattle.generators.proofs.cells.row_into.Goals as goal

pub returns-clause-text : goal.returns-clause-text
unfolding row_parts
returns-clause-text c =
    rw (
      c.append.ensures.text,
      c.append-marked.ensures.text,
      c.append_ended-count.ensures.text,
      c.append_ended-tries.ensures.text,
      c.append-state.ensures.text,
      c.append-named.ensures.text,
      c.append_ended-port.ensures.text,
      c.append_ended-four.ensures.text,
      c.append_ended-three.ensures.text,
      c.append_ended-two.ensures.text,
      c.append_ended-one.ensures.text,
      c.append_ended-slot.ensures.text,
      c.append-begun.ensures.text,
      c.name_of.ensures.text,
      c.mark_of.ensures.text,
    )
    (joined_is [] (row_parts c.args.row.now))
