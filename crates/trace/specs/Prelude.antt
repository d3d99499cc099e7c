-- The names of the definitions of this crate that other files cite, passed on from one place. Declares nothing.
pub use Rattle.trace.specs.CaptureReading.{BeginsWith, Captured, HasLongRecord, HoldsJust, IsCaptured, IsCutRecord, IsReadAs, Reading}
pub use Rattle.trace.specs.CaptureReading.{captured_bytes, captured_in, cut_in, fault_in, length_in, line_text, lines_of, order_of}
pub use Rattle.trace.specs.CaptureReading.Reading.{BadHeader, BadLength, InHeader, InRecord, Whole}
pub use Rattle.trace.specs.CaptureText.{capture_file, capture_header, datagrams_in, datagrams_on, frame_record}
pub use Rattle.trace.specs.ConstantValues.{ConstantValues}
pub use Rattle.trace.specs.Converting.{Converts, HasNewFault, IsFoundSoon, IsSurely, LinesComeBack, SlipEndsBy, WroteLine, end_by_cut}
pub use Rattle.trace.specs.DumpText.{datagram_words, dump_line, dump_text, icmp_words, ip_word, letters_or_dash}
pub use Rattle.trace.specs.DumpText.{numbers_text, payload_words, segment_words, socket_text, tcp_words}
pub use Rattle.trace.specs.Gathering.{BrokeOff, IsAtFault, IsOpen, IsReadSound, IsReadTo, StopBy, Stopped, StopsAt, end_at}
pub use Rattle.trace.specs.LineReading.{EndsRead, StopsAmong, StopsRead}
pub use Rattle.trace.specs.Seen.{Seen, seen_after, seen_at, seen_on, silences_of}
pub use Rattle.trace.specs.Reporting.{ReportsLine}
pub use Rattle.trace.specs.Watching.{BrokeWatch, HasSeen, IsWatched, Saw, frame_text, text_after, texts_from}
