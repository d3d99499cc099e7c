-- The text of a report.
use Rattle.std.specs.Option.{option_map_or}
use Rattle.std.specs.Prelude.{ℕ, ◌+◌, Bool, List, [], ◌∷◌, ◌++◌, length, map, Option, codes, decimal}
use Rattle.hex.specs.Hex.{encode_lower}
use Rattle.text_buffer.specs.Prelude.{word_if}
use Rattle.tcp_segment.specs.Prelude.{PlainSegment, flag_letters}
use Rattle.uip_node.specs.Prelude.{ticks_of}
use Rattle.link_client.specs.declared.client_state.ClientState.{ClientState}
use Rattle.link_client.specs.declared.client_state.ClientState.TheVariants.{Idle, Opening, Opened, Closing, Closed, Ended, Reset}
use Rattle.link_world.specs.Prelude.{World, Side, Sent, Content, OfSegment, OfPing, OfEcho}
use Rattle.link_world.specs.declared.who.Who.{Who}
use Rattle.link_world.specs.declared.who.Who.TheVariants.{FromClient, FromNode, Pinger}
use Rattle.link_replay.specs.declared.report.kind.Kind.{Kind}
use Rattle.link_replay.specs.declared.report.kind.Kind.TheVariants.{Segment, EchoRequest, EchoReply}

-- the sender, or for a datagram of the node the client that receives it
abbrev pub who_word : Who → List ℕ
who_word (FromClient number) = codes "c" ++ decimal number
who_word (FromNode number) = codes "n" ++ decimal number
who_word Pinger = codes "p"

abbrev pub segment_kind : PlainSegment → Kind
segment_kind s = Segment s.flags s.seq (length s.text)

-- the part of a datagram's content that is shown
abbrev pub kind_sent : Content → Kind
kind_sent (OfSegment id s) = segment_kind s
kind_sent (OfPing datagram) = EchoRequest
kind_sent (OfEcho request) = EchoReply

-- flags, sequence number and length
abbrev pub kind_words : Kind → List ℕ
kind_words (Segment flags seq len) = flag_letters flags ++ codes " " ++ decimal seq ++ codes " " ++ decimal len
kind_words EchoRequest = codes "echo 0 0"
kind_words EchoReply = codes "reply 0 0"

abbrev pub datagram_line : ℕ → ℕ → Who → Kind → Bool → List ℕ
datagram_line number tick who kind again =
    decimal number ++ codes " " ++ decimal tick ++ codes " " ++ who_word who ++ codes " " ++ kind_words kind
    ++ word_if again (codes " again") ++ codes "\n"

-- number, ticks at sending, sender or receiver, content, and the mark of a retransmission
abbrev pub line_of_datagram : ℕ → Sent → List ℕ
line_of_datagram number e = datagram_line number e.tick e.who (kind_sent e.content) e.again

abbrev pub state_word : ClientState → List ℕ
state_word Idle = codes "idle"
state_word Opening = codes "opening"
state_word Opened = codes "open"
state_word Closing = codes "closing"
state_word Closed = codes "closed"
state_word Ended = codes "ended"
state_word Reset = codes "reset"

-- whether a stale datagram was delivered, and, if everything is shown, the number of the first
abbrev pub clean_words : Bool → Option ℕ → List ℕ
clean_words show first = option_map_or (λ number. codes "stale" ++ word_if show (codes " " ++ decimal number)) first (codes "clean")

-- what a report and a summary show of a client
pub record ShownSide : Type 0 where
  pub state : ClientState
  pub received : List ℕ
  pub first_stale : Option ℕ

abbrev pub side_shown : Side → ShownSide
side_shown side = record { state = side.client.state; received = side.client.received; first_stale = side.first_stale }

-- number, state, the number of bytes received, and whether it is clean
abbrev pub client_line : Bool → ℕ → ShownSide → List ℕ
client_line show number side =
    codes "client " ++ decimal number ++ codes " " ++ state_word side.state ++ codes " " ++ decimal (length side.received) ++ codes " "
    ++ clean_words show side.first_stale ++ codes "\n"

-- bytes as pairs of digits
abbrev pub digits_or_dash : List ℕ → List ℕ
digits_or_dash [] = codes "-"
digits_or_dash (byte ∷ bytes) = encode_lower (byte ∷ bytes)

abbrev pub text_line : List ℕ → List ℕ
text_line bytes = codes "text " ++ digits_or_dash bytes ++ codes "\n"

-- the line of a client; if everything is shown, the bytes that it received are on a line of their own
abbrev pub lines_of_client : Bool → ℕ → ShownSide → List ℕ
lines_of_client show number side = client_line show number side ++ word_if show (text_line side.received)

-- the number of ticks and of datagrams
abbrev pub counts_line : ℕ → ℕ → List ℕ
counts_line ticks datagrams = codes "ticks " ++ decimal ticks ++ codes " datagrams " ++ decimal datagrams ++ codes "\n"

-- the text of each element, numbered from a given number
abbrev pub numbered_texts : {X : Type 0} → (ℕ → X → List ℕ) → ℕ → List X → List ℕ
numbered_texts text number [] = []
numbered_texts text number (x ∷ xs) = text number x ++ numbered_texts text (number + 1) xs

-- the clients and the counts
abbrev pub end_of_report : Bool → List ShownSide → ℕ → ℕ → List ℕ
end_of_report show sides ticks datagrams = numbered_texts (lines_of_client show) 1 sides ++ counts_line ticks datagrams

-- the datagrams, if everything is shown, and then the end
abbrev pub report : Bool → World → List ℕ
report show w =
    word_if show (numbered_texts line_of_datagram 1 w.sent)
    ++ end_of_report show (map side_shown w.sides) (ticks_of w.node.history) (length w.sent)
