-- Each row is computed from the definitions.
use Rattle.link_schedule.proofs.Prelude.{rules, bare, with_one, read_text, with_plan, quad_of, decode_pairs, AreWorkedSchedules}

pub worked : AreWorkedSchedules
unfolding bare with_one read_text with_plan quad_of decode_pairs
worked = search rules
