-- Each schedule is computed from the definitions.
use Rattle.link_replay.proofs.Prelude.{rules, digits, row_parts, idles, peer_closes, stays_established, in_established, fin_acked}
use Rattle.link_replay.proofs.Prelude.{fin_waits, on_segment, rests_on, ticks_established, happened, opens_in, for_no_connection}
use Rattle.link_replay.proofs.Prelude.{sends_next, takes_in_order, takes_by, client_takes, opens_by, again_by, closes_by, aborts_by}
use Rattle.link_replay.proofs.Prelude.{AreWorkedReplays}

pub worked : AreWorkedReplays
unfolding digits row_parts idles peer_closes stays_established in_established fin_acked fin_waits on_segment rests_on ticks_established
    happened opens_in for_no_connection sends_next takes_in_order takes_by client_takes opens_by again_by closes_by aborts_by
worked = search rules
