-- The names of the definitions of this crate that other files cite, passed on from one place. Declares nothing.
pub use Rattle.link_replay.specs.Apart.{AbortAndCloseApart, ClosesInTime, is_at_end}
pub use Rattle.link_replay.specs.Due.{HasReached, IsPlayDue, IsShort, IsTextDue, ServesHonest, WritesFault, WritesDue, WritesText}
pub use Rattle.link_replay.specs.Due.{reported_of}
pub use Rattle.link_replay.specs.Ending.{EndsWith, IsLoadText, IsReplayText, LacksEither, LoadEnds, ReplayEnds}
pub use Rattle.link_replay.specs.Epochs.{IsAtLast, OnlyEpoch, buried, sockets_for}
pub use Rattle.link_replay.specs.Hits.{HitsAreCounted, becomes_hit, hits_over, is_place, one_hits}
pub use Rattle.link_replay.specs.Honest.{IsHonest, rounds_for}
pub use Rattle.link_replay.specs.HonestPeers.{HonestWebPeer}
pub use Rattle.link_replay.specs.LossyPeers.{LossyWebPeer, WebPeersArrive}
pub use Rattle.link_replay.specs.Kinds.{column}
pub use Rattle.link_replay.specs.Laws.{HonestReplay, LoadIsReported, OnlyFull, ReplayIsReported, WroteDue}
pub use Rattle.link_replay.specs.Matched.{Matched}
pub use Rattle.link_replay.specs.Moving.{Buries, ChangesAt, DoesAct, FromHere, HandsOver, KeepsLink, OfDatagram, OfLink}
pub use Rattle.link_replay.specs.Moving.{OfWorld, PassesToNode, PostsBytes, PostsOfClient, PostsReply, ReportsStep}
pub use Rattle.link_replay.specs.Noting.{gone_pair, is_sent_again, lost, lost_at, or_pair, owner, owner_in, pair_at, resent, sockets_at}
pub use Rattle.link_replay.specs.Opening.{AreFresh, IsFresh, opening_for, plan_from, planned, server}
pub use Rattle.link_replay.specs.Outcome.{bad_schedule, outcome}
pub use Rattle.link_replay.specs.Owning.{Stepped, own_step}
pub use Rattle.link_replay.specs.Plain.{CodeSent, CodeSide}
pub use Rattle.link_replay.specs.Playing.{LinesEnd, PlaysIfPaged, PlaysSchedule, Reaches, Refuses, event_at, refusal_at}
pub use Rattle.link_replay.specs.Promises.{KeepsPromises}
pub use Rattle.link_replay.specs.Reaching.{ActSteps, ActsEnd, DamageLoses, IsAt, Stops, StopsAt}
pub use Rattle.link_replay.specs.Report.{ShownSide, client_line, counts_line, datagram_line, digits_or_dash, kind_sent, line_of_datagram}
pub use Rattle.link_replay.specs.Report.{lines_of_client, numbered_texts, report, segment_kind, side_shown, text_line}
pub use Rattle.link_replay.specs.Represents.{Follows, IsLink, LinkRepresents, SentRepresents, SideRepresents, WorldRepresents}
pub use Rattle.link_replay.specs.Shown.{AppendsShown, EndsReport, code_side_shown}
pub use Rattle.link_replay.specs.State.{CodeWorld, Link, link_of}
pub use Rattle.link_replay.specs.Summary.{summary_of, tally_line, tally_of}
pub use Rattle.link_replay.specs.Reporting.{AnswersTo, AreTo, IsTo, client_reported, pair_at_side, sees}
pub use Rattle.link_replay.specs.Web.{HonestPages, LosingPages, PagesAreReceived, most_of, parts_of, pieces_for, texts_for, texts_of}
pub use Rattle.link_replay.specs.Worked.{AreWorkedReplays}
pub use Rattle.link_replay.specs.WorkedReports.{AreWorkedReports}
pub use Rattle.link_replay.specs.WorkedSummaries.{AreWorkedSummaries}
pub use Rattle.link_replay.specs.Writing.{Wrote}
