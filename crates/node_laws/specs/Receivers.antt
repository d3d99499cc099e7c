-- Every receiver of an incarnation. It reassembles text from the segments sent to it, with any order, loss and duplication, and may keep
-- or discard any part of them.
use Rattle.std.specs.Option.{option_map_or}
use Rattle.std.specs.Prelude.{◌≡◌, ℕ, ◌+◌, ◌==◌, true, List, [], ◌∷◌, ◌++◌, length, Some, slice_get, if◌then◌else◌}
use Rattle.uip_wire.specs.Prelude.{wrap}
use Rattle.tcp_segment.specs.Prelude.{PlainSegment, has_fin}
use Rattle.node_laws.specs.Traces.{Exchange, sent_at}

-- A segment of the incarnation carries this byte at offset `at` ; offset 0 has the sequence number after the SYN.
pub record CarriesByte (iss : ℕ) (incarnation : List Exchange) (at byte : ℕ) : Type 0 where
  pub place : ℕ
  pub segment : PlainSegment
  pub output : sent_at incarnation place ≡ Some segment
  pub from : ℕ
  pub seq : segment.seq ≡ wrap (iss + 1 + from)
  pub within : ℕ
  pub sum : at ≡ from + within
  pub is : slice_get segment.text within ≡ Some byte

-- What a receiver may have: a segment carried each of these bytes, at its sequence number.
abbrev pub IsReceived : ℕ → List Exchange → List ℕ → Type 0
IsReceived iss incarnation got = (at byte : ℕ) → slice_get got at ≡ Some byte → CarriesByte iss incarnation at byte

-- A segment of the incarnation has a FIN, whose number follows `count` bytes of text.
pub record EndsAfter (iss : ℕ) (incarnation : List Exchange) (count : ℕ) : Type 0 where
  pub place : ℕ
  pub segment : PlainSegment
  pub output : sent_at incarnation place ≡ Some segment
  pub fin : has_fin segment.flags ≡ true
  pub seq : wrap (segment.seq + length segment.text) ≡ wrap (iss + 1 + count)

-- The simplest receiver accepts the text of a segment at the number that it expects, and discards all other segments.
abbrev pub takes_next : ℕ → List ℕ → PlainSegment → List ℕ
takes_next iss got s = if s.seq == wrap (iss + 1 + length got) then got ++ s.text else got

-- what the simplest receiver has if the segments of these exchanges arrive in this order; some may be missing, repeated or late
abbrev pub receives : ℕ → List Exchange → List ℕ → List ℕ → List ℕ
receives iss incarnation [] got = got
receives iss incarnation (place ∷ places) got =
    receives iss incarnation places (option_map_or (λ s. takes_next iss got s) (sent_at incarnation place) got)

-- The simplest receiver is one of those above.
abbrev pub PlainestReceives : Type 0
PlainestReceives = (iss : ℕ) (incarnation : List Exchange) (places : List ℕ)
    → IsReceived iss incarnation (receives iss incarnation places [])
