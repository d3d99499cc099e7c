-- What bytes decode to fits its types.
use Rattle.node_laws.proofs.Prelude.{All, option_map_or, ℕ, zero, suc, ◌+◌, ◌-◌, ◌%◌, ◌<◌, not, ◌||◌, List, [], ◌∷◌, ◌++◌, length, take}
use Rattle.node_laws.proofs.Prelude.{drop, refl, sym, subst, arith, Option, Some, None, Result, eqb, ltb, bytes_eq, slice_index, All-take}
use Rattle.node_laws.proofs.Prelude.{All-drop, address_at, checksum_of, word_at, long_at, Addr, proto_of, head_by, head_or_fate, payload_of}
use Rattle.node_laws.proofs.Prelude.{IpHead, IpFate, Proto, Icmp, echo_fate, IcmpFate, header_len, segment_in, pseudo_header, TcpFate}
use Rattle.node_laws.proofs.Prelude.{Segment, IsAddr, IsByte, by_head, by_proto, by_segment, event_of, Event, IpRefused, IcmpRefused}
use Rattle.node_laws.proofs.Prelude.{TcpRefused, EchoAsked, Arrived, Overlong, Periodic, IsEvent, choose, all_nil, all_cons, IsOfLine}
use Rattle.node_laws.proofs.Prelude.{of_bytes, of_overlong, of_call}
use Rattle.uip_ipv4.specs.declared.proto.Proto.TheVariants.{Tcp}

-- what a segment that came has
abbrev pub IsWire : Event → Type 0
IsWire (Arrived p s) = IsAddr p.peer × (p.peer_port.0 < 65536) × (p.own_port.0 < 65536) × (s.ack < 4294967296) × All IsByte s.text
IsWire (IpRefused fate) = Unit {0}
IsWire (IcmpRefused fate) = Unit {0}
IsWire (TcpRefused fate) = Unit {0}
IsWire (EchoAsked datagram) = Unit {0}
IsWire Overlong = Unit {0}
IsWire (Periodic slot) = Unit {0}

tail_all : (x : ℕ) (xs : List ℕ) → All IsByte (x ∷ xs) → All IsByte xs
tail_all x xs h = λ i d l. h (suc i) d (omega (arith, l))

index_low : (xs : List ℕ) (i : ℕ) → All IsByte xs → slice_index xs i < 256
index_low [] i h = omega arith
index_low (x ∷ xs) zero h = h 0 0 (omega arith)
index_low (x ∷ xs) (suc i) h = index_low xs i (tail_all x xs h)

word_low : (xs : List ℕ) (at : ℕ) → All IsByte xs → word_at xs at < 65536
word_low xs at h = (let a = index_low xs at h in let b = index_low xs (at + 1) h in omega (arith, a, b))

long_low : (xs : List ℕ) (at : ℕ) → All IsByte xs → long_at xs at < 4294967296
long_low xs at h = (let a = word_low xs at h in let b = word_low xs (at + 2) h in omega (arith, a, b))

addr_fits : (xs : List ℕ) (at : ℕ) → All IsByte xs → IsAddr (record { 0 = address_at xs at })
addr_fits xs at h = record {
  four = refl;
  all_bytes = (let a : ℕ = slice_index xs at in let b : ℕ = slice_index xs (at + 1) in let c : ℕ = slice_index xs (at + 2) in
      let d : ℕ = slice_index xs (at + 3) in
      all_cons IsByte a (b ∷ c ∷ d ∷ []) (index_low xs at h) (all_cons IsByte b (c ∷ d ∷ []) (index_low xs (at + 1) h)
      (all_cons IsByte c (d ∷ []) (index_low xs (at + 2) h) (all_cons IsByte d [] (index_low xs (at + 3) h) (all_nil IsByte)))));
}

payload_low : (head : IpHead) (bytes : List ℕ) → All IsByte bytes → All IsByte (payload_of head bytes)
payload_low head bytes h = All-take IsByte (head.total - 20) (drop 20 bytes) (All-drop IsByte 20 bytes h)

segment_wire : (head : IpHead) (bytes payload : List ℕ) (source target : List ℕ) → IsAddr head.source → All IsByte bytes
    → All IsByte payload → IsWire (by_segment head bytes (segment_in source target payload))
unfolding segment_in
segment_wire head bytes payload source target a are h =
    let at : ℕ = 20 + header_len payload in
    let size : ℕ = length payload - header_len payload in
    let P : Result Segment TcpFate → Type 0 = λ r. IsWire (by_segment head bytes r) in
    choose P (ltb (length payload) 20) _ _ (λ e. tt)
    (λ e. choose P (ltb (header_len payload) 20 || ltb (length payload) (header_len payload)) _ _ (λ f. tt)
    (λ f. choose P (not (eqb (checksum_of (pseudo_header source target (length payload) ++ payload)) 0)) _ _ (λ g. tt)
    (λ g. (
      a,
      word_low payload 0 h,
      word_low payload 2 h,
      long_low payload 8 h,
      All-take IsByte (at + size - at) (drop at bytes) (All-drop IsByte at bytes are),
    ))))

echo_wire : (fate : Option IcmpFate) (request : List ℕ) → IsWire (option_map_or IcmpRefused fate (EchoAsked request))
echo_wire None request = tt
echo_wire (Some fate) request = tt

proto_wire : (proto : Proto) (head : IpHead) (bytes : List ℕ) → IsAddr head.source → All IsByte bytes → IsWire (by_proto proto head bytes)
proto_wire Icmp head bytes a h = echo_wire (echo_fate (payload_of head bytes)) (take head.total bytes)
proto_wire Tcp head bytes a h = segment_wire head bytes (payload_of head bytes) head.source.0 head.target.0 a h (payload_low head bytes h)

head_wire : (proto : Option Proto) (bytes : List ℕ) → All IsByte bytes → IsWire (by_head bytes (head_by proto bytes))
head_wire None bytes h = tt
head_wire (Some proto) bytes h =
    proto_wire proto (record {
      total = word_at bytes 2;
      proto = proto;
      source = record { 0 = address_at bytes 12 };
      target = record { 0 = address_at bytes 16 };
    }) bytes (addr_fits bytes 12 h) h

pub bytes_wire : (own : Addr) (bytes : List ℕ) → All IsByte bytes → IsWire (event_of own bytes)
unfolding head_or_fate
bytes_wire own bytes h =
    let P : Result IpHead IpFate → Type 0 = λ r. IsWire (by_head bytes r) in
    choose P (ltb (length bytes) 20) _ _ (λ e. tt)
    (λ e. choose P (not (eqb (slice_index bytes 0) 69)) _ _ (λ f. tt)
    (λ f. choose P (ltb (word_at bytes 2) 20 || ltb (length bytes) (word_at bytes 2)) _ _ (λ g. tt)
    (λ g. choose P (not (eqb (word_at bytes 6 % 16384) 0)) _ _ (λ i. tt)
    (λ i. choose P (not (eqb (checksum_of (take 20 bytes)) 0)) _ _ (λ j. tt)
    (λ j. choose P (not (bytes_eq (address_at bytes 16) own.0)) _ _ (λ k. tt)
    (λ k. head_wire (proto_of (slice_index bytes 9)) bytes h))))))

pub line_wire : (own : Addr) (event : Event) → IsOfLine own event → IsWire event
line_wire own event h = elim h [
  | of_bytes bytes b e ↦ subst IsWire (sym e) (bytes_wire own bytes b)
  | of_overlong e ↦ subst IsWire (sym e) tt
  | of_call slot e ↦ subst IsWire (sym e) tt
]

pub wire_event : (event : Event) → IsWire event → IsEvent event
wire_event (Arrived p s) h = (h.0, h.1)
wire_event (IpRefused fate) h = tt
wire_event (IcmpRefused fate) h = tt
wire_event (TcpRefused fate) h = tt
wire_event (EchoAsked datagram) h = tt
wire_event Overlong h = tt
wire_event (Periodic slot) h = tt
