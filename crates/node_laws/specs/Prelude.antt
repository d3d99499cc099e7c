-- The names of the definitions of this crate that other files cite, passed on from one place. Declares nothing.
pub use Rattle.node_laws.specs.Asked.{IsEchoed, IsSolicited, IsWithoutReset, ContinuesUnreset, NothingUnsolicited, OpensServed}
pub use Rattle.node_laws.specs.HonestPeers.{Asker, AsksHonestly, HasItsPage, HonestPeer, IsHonest, IsWaitedFor, SendsNext, SendsSyn}
pub use Rattle.node_laws.specs.HonestPeers.{awaits_ack, bare_acks, calls_of, in_turn, is_bare_ack, receives_all, text_received}
pub use Rattle.node_laws.specs.LossyPeers.{Arrives, ArrivesIn, ArrivesUnderLoss, AsksOverLoss, HasAcknowledged, IsLossy, IsOnItsWay}
pub use Rattle.node_laws.specs.LossyPeers.{IsOverLoss, IsWithoutFin, Progresses, ReceivesStale, acknowledges_new, expected_next}
pub use Rattle.node_laws.specs.LossyPeers.{fresh, in_handshake, is_stale, retransmission_limit, retransmissions, sent_next, with_fresh}
pub use Rattle.node_laws.specs.Promise.{Account, AccountHolds, Acknowledges, Begins, IncarnationConforms, IsSelection}
pub use Rattle.node_laws.specs.Promise.{IsAcknowledged, IsAtOffset, IsExtendedBy, IsPrefixOfPage, NumbersGiveOffsets}
pub use Rattle.node_laws.specs.Promise.{Opening, OutputModel, SendsSlice, TextConforms, sequence_length}
pub use Rattle.node_laws.specs.Promise.OutputModel.{Free, Interactive, Paged}
pub use Rattle.node_laws.specs.Receivers.{CarriesByte, EndsAfter, IsReceived, PlainestReceives, receives, takes_next}
pub use Rattle.node_laws.specs.Speakers.{AcceptsPrefix, FollowsModelAt, FollowsPagesAt}
pub use Rattle.node_laws.specs.Speakers.{HasOutputModel, IsPagedAt, LeavesDelivered, at_every_port}
pub use Rattle.node_laws.specs.Timers.{IsOutstanding, IsRetried, IsRetriedIn, RetransmitsOrResets, RetriesIn}
pub use Rattle.node_laws.specs.Timers.IsRetried.{given_up, sent_again}
pub use Rattle.node_laws.specs.TraceConforms.{EveryTraceConforms, EveryTraceOfPagesConforms, TraceConforms}
pub use Rattle.node_laws.specs.Traces.{Exchange, IsIncarnationIn, TraceEntry, exchange, exchanges_onto, exchanges_with, is_empty}
pub use Rattle.node_laws.specs.Traces.{is_incarnation, is_opening, received_at, received_from, replies_of, sent_at, sent_to, with_first}
pub use Rattle.node_laws.specs.Turns.{trace_of}
pub use Rattle.node_laws.specs.Windows.{FitsNewest, FitsWindows, IsNewText, IsPassedOver, WindowsAreRespected}
pub use Rattle.node_laws.specs.Wire.{IsOfLine, IsDecoded, IsDecodedAt, seen_from_peer}
pub use Rattle.node_laws.specs.Wire.IsOfLine.{of_bytes, of_call, of_overlong}
pub use Rattle.node_laws.specs.WrongIncarnations.{SpeaksBy, WrongIncarnationsFall, acknowledges_refused, cut_again}
pub use Rattle.node_laws.specs.WrongIncarnations.{echoes_before, ends_early, exchanged}
pub use Rattle.node_laws.specs.WrongIncarnations.{hello_pages, mirror_pages, opened, repeats_byte, segment, reports_another, two_under_way}
