-- The lens changes nothing of a datagram that is sent except the sequence number.
use Rattle.std.proofs.Common.{◌≡◌, ℕ, ◌+◌, ◌*◌, ◌/◌, ◌%◌, ◌<◌, ◌≤◌, Bool, true, false, ◌&&◌, ◌==◌, nat_le, List, [], ◌∷◌, ◌++◌, length}
use Rattle.std.proofs.Common.{take, drop, refl, sym, ap, ◌∙◌, arith, rules, Option, Some, None, if◌then◌else◌}
use Rattle.std.specs.Prelude.{slice_index, slice_range}
use Rattle.std.proofs.lemmas.Bool.{and_from}
use Rattle.uip_wire.specs.Prelude.{address_at, bytes_of, checksum_of, long_at, word_bytes, wrap}
use Rattle.uip_wire.specs.declared.addr.Addr.{Addr}
use Rattle.uip_wire.proofs.Words.{same_long}
use Rattle.uip_ipv4.specs.declared.proto.Proto.TheVariants.{Tcp}
unfoldable use Rattle.uip_ipv4.specs.Prelude.{head_bytes}
use Rattle.uip_ipv4.specs.Prelude.{head_with}
use Rattle.uip_ipv4.proofs.Back.{length-head_bytes}
use Rattle.icmp_echo.specs.Prelude.{echo_message, echo_reply}
use Rattle.sip_hash.specs.SipHash.{sip_hash}
use Rattle.sip_hash.specs.declared.key.Key.{Key}
use Rattle.tcp_segment.specs.Prelude.{Datagram, IsSoundDatagram, PlainSegment, offset_of, option_words, segment_bytes, segment_sum}
unfoldable use Rattle.tcp_segment.specs.Prelude.{datagram_bytes}
use Rattle.tcp_machine.specs.Prelude.{Sockets}
use Rattle.uip_node.specs.Prelude.{Echo, TcpReply, datagram_to, reply_bytes}
use Rattle.segment_guard.specs.Lens.{leaving_shift, outward, pair_shift, two_at, with_number}
use Rattle.segment_guard.specs.Laws.{with_seq}
use Rattle.segment_guard.proofs.Outward.{sent_carries_over, words}
unfoldable use Rattle.guarded_node.specs.Wire.{leaving}
use Rattle.guarded_node.specs.Wire.{is_tcp, shift_for}
use Rattle.guarded_node.specs.WireLaws.{IsSendable, LeavingIsShifted, on_wire}

le_true : (a b : ℕ) → a ≤ b → nat_le a b ≡ true
le_true a b h = search (rules, h)

eq_true : (a b : ℕ) → a ≡ b → (a == b) ≡ true
eq_true a b h = search (rules, h)

-- what is read of a header before other bytes
record HeadRead (head rest source target : List ℕ) : Type 0 where
  nine : slice_index (head ++ rest) 9 ≡ 6
  source_at : address_at (head ++ rest) 12 ≡ source
  target_at : address_at (head ++ rest) 16 ≡ target

head_read : (total id : ℕ) (source target rest : List ℕ) → length source ≡ 4 → length target ≡ 4
    → HeadRead (head_bytes total id Tcp source target) rest source target
unfolding head_bytes
head_read total id (a ∷ b ∷ c ∷ d ∷ []) (e ∷ f ∷ g ∷ h ∷ []) rest s t = record { nine = refl; source_at = refl; target_at = refl }
head_read total id _ _ rest s t = absurd (omega arith)

-- what is read of a segment after a header
record SegmentRead (head : List ℕ) (from to seq : ℕ) (segment : List ℕ) : Type 0 where
  long : 40 ≤ length (head ++ segment)
  from_at : two_at (head ++ segment) 20 ≡ word_bytes from
  to_at : two_at (head ++ segment) 22 ≡ word_bytes to
  seq_at : long_at (head ++ segment) 24 ≡ seq

segment_read : (head : List ℕ) (from to seq ack offset window sum : ℕ) (rest : List ℕ) → length head ≡ 20
    → SegmentRead head from to seq (words from to seq ack offset window sum rest)
segment_read (h0 ∷ h1 ∷ h2 ∷ h3 ∷ h4 ∷ h5 ∷ h6 ∷ h7 ∷ h8 ∷ h9 ∷ h10 ∷ h11 ∷ h12 ∷ h13 ∷ h14 ∷ h15 ∷ h16 ∷ h17 ∷ h18 ∷ h19 ∷ []) from to seq
    ack offset window sum rest long =
    record { long = omega arith; from_at = refl; to_at = refl; seq_at = same_long seq }
segment_read _ from to seq ack offset window sum rest long = absurd (omega arith)

record DatagramRead (d : Datagram) : Type 0 where
  tcp : is_tcp (datagram_bytes d) ≡ true
  source_at : address_at (datagram_bytes d) 12 ≡ d.source
  target_at : address_at (datagram_bytes d) 16 ≡ d.target
  from_at : two_at (datagram_bytes d) 20 ≡ word_bytes d.from
  to_at : two_at (datagram_bytes d) 22 ≡ word_bytes d.to
  seq_at : long_at (datagram_bytes d) 24 ≡ d.segment.seq

datagram_read : (d : Datagram) → IsSoundDatagram d → DatagramRead d
unfolding datagram_bytes
datagram_read d sound =
    let total : ℕ = 20 + length (segment_bytes d) in
    let head : List ℕ = head_bytes total d.id Tcp d.source d.target in
    let offset : ℕ = offset_of d.segment.mss * 4096 + d.segment.flags in
    let rest : List ℕ = bytes_of (option_words d.segment.mss) ++ d.segment.text in
    let h : HeadRead head (segment_bytes d) d.source d.target = head_read total d.id d.source d.target (segment_bytes d) sound.source sound.target in
    let s : SegmentRead head d.from d.to d.segment.seq (segment_bytes d) =
    segment_read head d.from d.to d.segment.seq d.segment.ack offset d.segment.window (segment_sum d) rest
    (length-head_bytes total d.id Tcp d.source d.target sound.source sound.target) in
    record {
      tcp = and_from (nat_le 40 (length (head ++ segment_bytes d))) (slice_index (head ++ segment_bytes d) 9 == 6)
          (le_true 40 (length (head ++ segment_bytes d)) s.long) (eq_true (slice_index (head ++ segment_bytes d) 9) 6 h.nine);
      source_at = h.source_at;
      target_at = h.target_at;
      from_at = s.from_at;
      to_at = s.to_at;
      seq_at = s.seq_at;
    }

same_shift : (key : Key) (a c d e b f g i : List ℕ) → a ≡ b → c ≡ f → d ≡ g → e ≡ i → wrap (sip_hash key (a ++ c ++ d ++ e))
    ≡ wrap (sip_hash key (b ++ f ++ g ++ i))
same_shift key a c d e b f g i p q r s =
    ap (λ (l : List ℕ). wrap (sip_hash key (l ++ c ++ d ++ e))) p ∙ ap (λ (l : List ℕ). wrap (sip_hash key (b ++ l ++ d ++ e))) q
    ∙ ap (λ (l : List ℕ). wrap (sip_hash key (b ++ f ++ l ++ e))) r ∙ ap (λ (l : List ℕ). wrap (sip_hash key (b ++ f ++ g ++ l))) s

segment_shifted : (key : Key) (own : Addr) (p : Sockets) (id : ℕ) (s : PlainSegment) → IsSoundDatagram (datagram_to own p id s) → s.seq < 4294967296
    → outward key (datagram_bytes (datagram_to own p id s)) ≡ datagram_bytes
    (datagram_to own p id (record s { seq = wrap (s.seq + shift_for (Some key) own p) }))
segment_shifted key own p id s sound low =
    let d : Datagram = datagram_to own p id s in
    let r : DatagramRead d = datagram_read d sound in
    let shift : leaving_shift key (datagram_bytes d) ≡ pair_shift key own p.peer p.peer_port p.own_port =
    same_shift key (address_at (datagram_bytes d) 16) (address_at (datagram_bytes d) 12) (two_at (datagram_bytes d) 22)
    (two_at (datagram_bytes d) 20) (address_at p.peer.0 0) (address_at own.0 0) (word_bytes p.peer_port.0) (word_bytes p.own_port.0)
    (ap (λ (l : List ℕ). address_at l 0) r.target_at) (ap (λ (l : List ℕ). address_at l 0) r.source_at) r.to_at r.from_at in
    ap (λ (n : ℕ). with_number (datagram_bytes d) 24 (wrap (n + leaving_shift key (datagram_bytes d)))) r.seq_at
    ∙ ap (λ (n : ℕ). with_number (datagram_bytes d) 24 (wrap (s.seq + n))) shift
    ∙ sent_carries_over d (wrap (s.seq + pair_shift key own p.peer p.peer_port p.own_port)) sound low (omega arith)

chosen : (b : Bool) (x y : List ℕ) → b ≡ true → (if b then x else y) ≡ x
chosen true x y h = refl
chosen false x y h = cc

other : (b : Bool) (x y : List ℕ) → b ≡ false → (if b then x else y) ≡ y
other true x y h = cc
other false x y h = refl

-- ---- an echo

nine_kept : (request x y z : List ℕ) → slice_index request 9 ≡ 1 → slice_index (take 12 request ++ x ++ y ++ z) 9 ≡ 1
nine_kept (a ∷ b ∷ c ∷ d ∷ e ∷ f ∷ g ∷ h ∷ i ∷ j ∷ more) x y z is = is
nine_kept _ x y z is = absurd (omega (arith, is))

no_right : (b : Bool) → b && false ≡ false
no_right true = refl
no_right false = refl

no_tcp : (bytes : List ℕ) → slice_index bytes 9 ≡ 1 → is_tcp bytes ≡ false
no_tcp bytes one = ap (λ (n : ℕ). nat_le 40 (length bytes) && (n == 6)) one ∙ no_right (nat_le 40 (length bytes))

pub leaving_is : LeavingIsShifted
unfolding leaving
leaving_is None own reply h = refl
leaving_is (Some key) own (TcpReply p id again s) h =
    chosen (is_tcp (datagram_bytes (datagram_to own p id s))) (outward key (datagram_bytes (datagram_to own p id s)))
    (datagram_bytes (datagram_to own p id s)) (datagram_read (datagram_to own p id s) h.0).tcp
    ∙ segment_shifted key own p id s h.0 h.1
leaving_is (Some key) own (Echo request) h =
    other (is_tcp (echo_reply request)) (outward key (echo_reply request)) (echo_reply request)
    (no_tcp (echo_reply request) (nine_kept request (slice_range request 16 20) (slice_range request 12 16) (echo_message (drop 24 request)) h))
