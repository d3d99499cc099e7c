-- Each schedule is computed from the definitions.
use Rattle.desk_laws.proofs.Prelude.{refl, digits, folded, head_or_fate, head_bytes, datagram_bytes, segment_in, idles, peer_closes}
use Rattle.desk_laws.proofs.Prelude.{stays_established, in_established, fin_acked, fin_waits, on_segment, rests_on, ticks_established}
use Rattle.desk_laws.proofs.Prelude.{happened, opens_in, for_no_connection, sends_next, takes_in_order, takes_by, client_takes, opens_by}
use Rattle.desk_laws.proofs.Prelude.{again_by, closes_by, aborts_by, AreWorkedWorlds}

pub worked : AreWorkedWorlds
unfolding digits folded head_or_fate head_bytes datagram_bytes segment_in idles peer_closes stays_established in_established fin_acked
    fin_waits on_segment rests_on ticks_established happened opens_in for_no_connection sends_next takes_in_order takes_by client_takes
    opens_by again_by closes_by aborts_by
worked = record { session = refl; lost = refl; lost_again = refl; damaged = refl; damaged_again = refl; prefix = refl; too_many = refl; both = refl }
