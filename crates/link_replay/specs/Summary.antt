-- The summary of a replay in one line.
use Rattle.std.specs.Prelude.{ℕ, Bool, List, ◌++◌, ◌==◌, length, map, not, is_none, count_by, sum_by, codes, decimal}
use Rattle.link_world.specs.Prelude.{World}
use Rattle.link_replay.specs.Kinds.{column}
use Rattle.link_replay.specs.Report.{ShownSide, side_shown}
use Rattle.link_replay.specs.declared.report.tally.Tally.{Tally}

-- The counts of a summary: the clients by their states, those that are not clean, the bytes of all pages, the datagrams, and the
-- retransmissions.
abbrev pub tally_of : List ShownSide → List Bool → Tally
tally_of sides again = record {
  closed = count_by (λ side. column side.state == 0) sides;
  opened = count_by (λ side. column side.state == 1) sides;
  reset = count_by (λ side. column side.state == 2) sides;
  other = count_by (λ side. column side.state == 3) sides;
  stale = count_by (λ side. not (is_none side.first_stale)) sides;
  bytes = sum_by (λ side. length side.received) sides;
  datagrams = length again;
  again = count_by (λ it. it) again;
}

abbrev pub tally_line : Tally → List ℕ
tally_line t =
    codes "closed " ++ decimal t.closed ++ codes " open " ++ decimal t.opened ++ codes " reset " ++ decimal t.reset
    ++ codes " other " ++ decimal t.other ++ codes " stale " ++ decimal t.stale ++ codes " bytes " ++ decimal t.bytes
    ++ codes " datagrams " ++ decimal t.datagrams ++ codes " again " ++ decimal t.again ++ codes "\n"

abbrev pub summary_of : World → List ℕ
summary_of w = tally_line (tally_of (map side_shown w.sides) (map (λ e. e.again) w.sent))
