-- The names of the definitions of this crate that other files cite, passed on from one place. Declares nothing.
pub use Rattle.link_world.specs.Acts.{acts, client_acts, does, fault_of, handed, handles_all, hands_over}
pub use Rattle.link_world.specs.Acts.{if_idle, is_idle, named_fault, needs, runs, state_at}
pub use Rattle.link_world.specs.Bytes.{bytes_by, changed, client_bytes, received_by, receives_datagram, node_bytes, sent_bytes, server_of}
unfoldable pub use Rattle.link_world.specs.Bytes.{ping_from}
pub use Rattle.link_world.specs.Ends.{ClientEnd, clean_end, end_of_client, text_of_content, worked_client}
pub use Rattle.link_world.specs.Headline.{AgainExactly, AgainExactlyPlainly, CountsBy, DamageIsLoss, DamageIsLossThere, IsAct}
pub use Rattle.link_world.specs.Headline.{IsExpired, IsInStep, IsLoss, IsPlainAct, IsReached, IsReachedPlainly, IsRepeatOf}
pub use Rattle.link_world.specs.Headline.{IsSchedulePlayed, IsServed, IsWholeDatagram, LinesAreActs, MarksRepeats, OfLine}
pub use Rattle.link_world.specs.Headline.{OneRefusal, OneSegment, PassesBy, PrefixAndWhole, RepeatsSameBytes, SameBytes}
pub use Rattle.link_world.specs.Headline.{SameBytesPlainly, SendsAgain, Tick, is_refused, may_wait, rise, server_side}
pub use Rattle.link_world.specs.History.{IsPlan, IsPlanned, Planned, Start, captures_of, era, fresh_side}
pub use Rattle.link_world.specs.History.{initial_world, page_of, planned_of, sockets_in, started}
pub use Rattle.link_world.specs.Honest.{HonestLink, IsServedWhole}
pub use Rattle.link_world.specs.Losing.{LosingLink, ServesOverLoss, losing, losing_answers, losing_lines, lost_copies}
pub use Rattle.link_world.specs.Nodes.{CapturesFit, HasTextNumbers, IsOfNode, TextNumbers, TextsAreShort}
pub use Rattle.link_world.specs.Parts.{AsksRequest, CleanParts, HasOneEpoch, HasTaken, SendsPage}
pub use Rattle.link_world.specs.Reading.{BytesAreRead, IsNumberOf, IsRead, IsSentBy, SentToClients}
pub use Rattle.link_world.specs.Schedule.{BadLine, acts_of, mark_after, past_mark, plays, plays_from, plays_line}
pub use Rattle.link_world.specs.Times.{AcknowledgedLater, EpochsAreFew, IsLater, MarkIsLow, NoneIsEmpty, OneConnection, SidesAsPlanned}
pub use Rattle.link_world.specs.World.{Content, PastConnection, Sent, Side, World, addressed, at_side, becomes_opened, client_sockets}
pub use Rattle.link_world.specs.World.{client_stepped, delivers, epoch, epoch_of, is_clean, marked, node_handles, node_stepped, numbered}
pub use Rattle.link_world.specs.World.{past_connection_of, posts, posts_of_client, posts_reply, retires, retires_in, with_client, with_side}
pub use Rattle.link_world.specs.World.Content.{OfEcho, OfPing, OfSegment}
