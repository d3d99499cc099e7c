use Rattle.std.proofs.Common.{ap, ◌∙◌, sym, position}
use Rattle.std.specs.Option.{option_or}
use Rattle.tcp_table.specs.Prelude.{longest_rest, has_waited}
use Rattle.tcp_table.proofs.search.slot_in.Goals as goal

-- src/search.rt:50:1
pub returns-in-None : goal.returns-in-None
returns-in-None g c =
    c.waited_in.ensures
    ∙ ap (λ n. position (has_waited n) c.args.conns.now) c.longest_in.ensures
    ∙ ap (λ free. option_or free (position (has_waited (longest_rest c.args.conns.now)) c.args.conns.now)) (sym c.in-None.is ∙ c.closed_in.ensures)
