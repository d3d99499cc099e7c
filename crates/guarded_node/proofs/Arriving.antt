-- The lens changes nothing of a datagram that arrives except the acknowledgement number.
use Rattle.std.proofs.Common.{◌≡◌, ℕ, zero, suc, ◌+◌, ◌-◌, ◌*◌, ◌/◌, ◌%◌, ◌<◌, ◌≤◌, Bool, true, false, not, ◌&&◌, ◌||◌, ◌==◌, nat_le}
use Rattle.std.proofs.Common.{nat_lt, All, List, [], ◌∷◌, ◌++◌, length, take, drop, refl, sym, ap, ◌∙◌, subst, arith, rules, length-take}
use Rattle.std.proofs.Common.{length-drop, Ok, Err, Option, Some, None, Result, if◌then◌else◌}
use Rattle.std.specs.Prelude.{bytes_eq, slice_index, slice_range}
use Rattle.std.proofs.lemmas.Slice.Eq.{bytes_eq-Decides}
use Rattle.std.proofs.lemmas.Bool.{and_from, and_parts, eqb-true}
use Rattle.std.proofs.lemmas.Grind.{common_steps}
use Rattle.std.specs.Option.{option_map_or}
use Rattle.app_events.specs.Prelude.{IsByte}
use Rattle.uip_wire.specs.Prelude.{address_at, checksum_of, long_at, word_at, word_bytes, wrap}
use Rattle.uip_wire.specs.declared.addr.Addr.{Addr}
use Rattle.uip_ipv4.specs.Prelude.{head_by, head_or_fate, payload_of, proto_of}
use Rattle.uip_ipv4.specs.declared.fate.IpFate.{IpFate}
use Rattle.uip_ipv4.specs.declared.fate.IpFate.TheVariants.{Short, Version, Length, Fragment, Checksum, NotOurs}
use Rattle.uip_ipv4.specs.declared.head.IpHead.{IpHead}
use Rattle.uip_ipv4.specs.declared.proto.Proto.{Proto}
use Rattle.uip_ipv4.specs.declared.proto.Proto.TheVariants.{Icmp, Tcp}
use Rattle.uip_ipv4.proofs.Facts.{HeadFacts, facts_at}
use Rattle.icmp_echo.specs.declared.fate.IcmpFate.{IcmpFate}
use Rattle.icmp_echo.specs.Prelude.{echo_fate}
use Rattle.sip_hash.specs.SipHash.{sip_hash}
use Rattle.sip_hash.specs.declared.key.Key.{Key}
use Rattle.tcp_segment.specs.Prelude.{header_len, plain_of, pseudo_header, segment_in, segment_or_fate}
use Rattle.tcp_segment.specs.Received.{fields_of}
use Rattle.tcp_segment.specs.Segments.{plain_segment}
use Rattle.tcp_segment.specs.declared.fate.TcpFate.{TcpFate}
use Rattle.tcp_segment.specs.declared.fate.TcpFate.TheVariants as Fates
use Rattle.tcp_segment.specs.declared.segment.Segment.{Segment}
use Rattle.uip_node.specs.Prelude.{Arrived, Event, EchoAsked, IcmpRefused, by_head, by_proto, by_segment, event_of, sockets_of}
use Rattle.segment_guard.specs.Lens.{adjusted, arriving_shift, inward, pair_shift, two_at, with_number}
use Rattle.segment_guard.specs.Laws.{received_with_ack, with_ack}
use Rattle.segment_guard.proofs.Inward.{after, before, carries_over, changed, cut, same_head}
use Rattle.segment_guard.proofs.Twenty.{Twenty, split}
unfoldable use Rattle.guarded_node.specs.Wire.{arriving}
use Rattle.guarded_node.specs.Wire.{is_tcp, shift_for}
use Rattle.guarded_node.specs.WireLaws.{ArrivingIsShifted, received}

-- ---- bytes

byte_at : (xs : List ℕ) → All IsByte xs → (k : ℕ) → slice_index xs k < 256
byte_at [] h k = omega arith
byte_at (x ∷ xs) h zero = h 0 0 (omega arith)
byte_at (x ∷ xs) h (suc k) = byte_at xs (λ i d l. h (suc i) d (omega (arith, l))) k

is_same : (xs ys : List ℕ) → bytes_eq xs ys ≡ true → xs ≡ ys
is_same xs ys e = (bytes_eq-Decides xs ys).0 e

by_bool : {P : Type 0} (b : Bool) → (b ≡ true → P) → (b ≡ false → P) → P
by_bool true f g = f refl
by_bool false f g = g refl

lt_true : (a b : ℕ) → a < b → nat_lt a b ≡ true
lt_true a b h = search (rules, h)

at_least : (a b : ℕ) → nat_lt a b ≡ false → b ≤ a
at_least a b h = grind (arith, common_steps)

lt_from : (a b : ℕ) → nat_lt a b ≡ true → a < b
lt_from a b h = grind (arith, common_steps)

le_from : (a b : ℕ) → nat_le a b ≡ true → a ≤ b
le_from a b h = grind (arith, common_steps)

le_true : (a b : ℕ) → a ≤ b → nat_le a b ≡ true
le_true a b h = search (rules, h)

-- ---- the header

last_passed : (a b c d e f : Bool) (rest : Result IpHead IpFate) (head : IpHead)
    → (if a then Err Short else if b then Err Version else if c then Err Length else if d then Err Fragment else if e then Err Checksum else
    if not f then Err NotOurs else rest) ≡ Ok head → f ≡ true
last_passed true b c d e f rest head h = cc
last_passed false true c d e f rest head h = cc
last_passed false false true d e f rest head h = cc
last_passed false false false true e f rest head h = cc
last_passed false false false false true f rest head h = cc
last_passed false false false false false true rest head h = refl
last_passed false false false false false false rest head h = cc

-- The target is the own address.
ours : (own bytes : List ℕ) (head : IpHead) → head_or_fate bytes own ≡ Ok head → address_at bytes 16 ≡ own
unfolding head_or_fate
ours own bytes head is =
    is_same (address_at bytes 16) own (last_passed (nat_lt (length bytes) 20) (not (slice_index bytes 0 == 69))
    (nat_lt (word_at bytes 2) 20 || nat_lt (length bytes) (word_at bytes 2))
    (not (word_at bytes 6 % 16384 == 0)) (not (checksum_of (take 20 bytes) == 0)) (bytes_eq (address_at bytes 16) own)
    (head_by (proto_of (slice_index bytes 9)) bytes) head is)

abbrev header : Proto → List ℕ → IpHead
header proto bytes = record { total = word_at bytes 2; proto = proto; source = record { 0 = address_at bytes 12 }; target = record { 0 = address_at bytes 16 } }

six : (a b : Bool) (bytes : List ℕ) (head : IpHead) → head_by (if a then Some Icmp else if b then Some Tcp else None) bytes ≡ Ok head
    → head.proto ≡ Tcp → b ≡ true
six true b bytes head is tcp =
    let same : header Icmp bytes ≡ head = cc in
    let clash : Icmp ≡ Tcp = ap (λ (h : IpHead). h.proto) same ∙ tcp in
    cc
six false true bytes head is tcp = refl
six false false bytes head is tcp = cc

names_tcp : (bytes : List ℕ) (head : IpHead) → slice_index bytes 9 ≡ 6 → head_by (proto_of (slice_index bytes 9)) bytes ≡ Ok head → head.proto ≡ Tcp
names_tcp bytes head nine is =
    let at_six : head_by (proto_of 6) bytes ≡ Ok head = sym (ap (λ (n : ℕ). head_by (proto_of n) bytes) nine) ∙ is in
    let same : header Tcp bytes ≡ head = cc in
    sym (ap (λ (h : IpHead). h.proto) same)

-- ---- the segment

pub record SegmentFacts (s : Segment) (payload : List ℕ) : Type 0 where
  pub is : s ≡ fields_of payload
  pub long : 20 ≤ length payload
  pub least : 20 ≤ header_len payload

all_checked : (a b c : Bool) (r s : Segment) → ◌≡◌ {A = Result Segment TcpFate} (if a then Err Fates.Short else if b then Err
    Fates.Offset else if c then Err Fates.Checksum else Ok r) (Ok s)
    → (a ≡ false) × (b ≡ false) × (s ≡ r)
all_checked true b c r s h = cc
all_checked false true c r s h = cc
all_checked false false true r s h = cc
all_checked false false false r s h = (refl, refl, cc)

neither : (a b : Bool) → a || b ≡ false → a ≡ false
neither true b h = h
neither false b h = refl

segment_facts : (source target payload : List ℕ) (s : Segment) → segment_in source target payload ≡ Ok s → SegmentFacts s payload
unfolding segment_in
segment_facts source target payload s h =
    let f = all_checked (nat_lt (length payload) 20) (nat_lt (header_len payload) 20 || nat_lt (length payload) (header_len payload)) _
    (fields_of payload) s h in
    record {
      is = f.2;
      long = at_least (length payload) 20 f.0;
      least = at_least (header_len payload) 20 (neither (nat_lt (header_len payload) 20) _ f.1);
    }

short_segment : (source target payload : List ℕ) → length payload < 20 → segment_in source target payload ≡ Err Fates.Short
unfolding segment_in
short_segment source target payload h =
    ap {A = Bool} {B = Result Segment TcpFate} (λ b. if b then Err Fates.Short
    else if nat_lt (header_len payload) 20 || nat_lt (length payload) (header_len payload) then Err Fates.Offset
    else if not (checksum_of (pseudo_header source target (length payload) ++ payload) == 0) then Err Fates.Checksum
    else Ok (fields_of payload)) (lt_true (length payload) 20 h)

payload_within : (head : IpHead) (bytes : List ℕ) → 20 ≤ head.total → length (payload_of head bytes) + 20 ≤ head.total
payload_within head bytes least = let l = length-take (head.total - 20) (drop 20 bytes) in grind (arith, l)

payload_inside : (head : IpHead) (bytes : List ℕ) → 20 ≤ length (payload_of head bytes) → 40 ≤ length bytes
payload_inside head bytes h = let l = length-take (head.total - 20) (drop 20 bytes) in let d = length-drop 20 bytes in grind (arith, l, d)

-- ---- what does not carry a TCP header

other_echo : (key : Key) (own : Addr) (o : Option IcmpFate) (datagram : List ℕ)
    → option_map_or IcmpRefused o (EchoAsked datagram) ≡ received (Some key) own (option_map_or IcmpRefused o (EchoAsked datagram))
other_echo key own None datagram = refl
other_echo key own (Some fate) datagram = refl

other_segment : (key : Key) (own : Addr) (wire : List ℕ) (head : IpHead) (r : Result Segment TcpFate) → is_tcp wire ≡ false
    → HeadFacts head wire → head.proto ≡ Tcp → segment_or_fate head wire ≡ r
    → by_segment head wire r ≡ received (Some key) own (by_segment head wire r)
other_segment key own wire head (Err fate) plain facts tcp is = refl
other_segment key own wire head (Ok s) plain facts tcp is =
    let long : nat_le 40 (length wire) ≡ true = le_true 40 (length wire)
    (payload_inside head wire (segment_facts head.source.0 head.target.0 (payload_of head wire) s is).long) in
    let nine : (slice_index wire 9 == 6) ≡ true = six (slice_index wire 9 == 1) (slice_index wire 9 == 6) wire head facts.fields tcp in
    let named : is_tcp wire ≡ true = and_from (nat_le 40 (length wire)) (slice_index wire 9 == 6) long nine in
    absurd (cc)

other_proto : (key : Key) (own : Addr) (wire : List ℕ) (head : IpHead) (proto : Proto) → is_tcp wire ≡ false → HeadFacts head wire → head.proto ≡ proto
    → by_proto proto head wire ≡ received (Some key) own (by_proto proto head wire)
other_proto key own wire head Icmp plain facts is = other_echo key own (echo_fate (payload_of head wire)) (take head.total wire)
other_proto key own wire head Tcp plain facts is = other_segment key own wire head (segment_or_fate head wire) plain facts is refl

other : (key : Key) (own : Addr) (wire : List ℕ) (r : Result IpHead IpFate) → is_tcp wire ≡ false → head_or_fate wire own.0 ≡ r
    → by_head wire r ≡ received (Some key) own (by_head wire r)
other key own wire (Err fate) plain is = refl
other key own wire (Ok head) plain is = other_proto key own wire head head.proto plain (facts_at own.0 wire head is) refl

-- ---- what does: its first forty bytes

abbrev whole : {xs ys : List ℕ} → Twenty xs → Twenty ys → List ℕ
whole h p = h.p0 ∷ h.p1 ∷ h.p2 ∷ h.p3 ∷ h.p4 ∷ h.p5 ∷ h.p6 ∷ h.p7 ∷ h.p8 ∷ h.p9 ∷ h.p10 ∷ h.p11 ∷ h.p12 ∷ h.p13 ∷ h.p14 ∷ h.p15 ∷ h.p16
    ∷ h.p17 ∷ h.p18 ∷ h.p19 ∷ before p.p0 p.p1 p.p2 p.p3 p.p4 p.p5 p.p6 p.p7 p.p8 p.p9 p.p10 p.p11 p.p12 p.p13 p.p14 p.p15 p.p16 p.p17 p.p18 p.p19 p.rest

abbrev altered : {xs ys : List ℕ} → ℕ → Twenty xs → Twenty ys → List ℕ
altered x h p = h.p0 ∷ h.p1 ∷ h.p2 ∷ h.p3 ∷ h.p4 ∷ h.p5 ∷ h.p6 ∷ h.p7 ∷ h.p8 ∷ h.p9 ∷ h.p10 ∷ h.p11 ∷ h.p12 ∷ h.p13 ∷ h.p14 ∷ h.p15 ∷ h.p16
    ∷ h.p17 ∷ h.p18 ∷ h.p19 ∷ after x p.p0 p.p1 p.p2 p.p3 p.p4 p.p5 p.p6 p.p7 p.p8 p.p9 p.p10 p.p11 p.p12 p.p13 p.p14 p.p15 p.p16 p.p17 p.p18 p.p19 p.rest

from_whole : (wire : List ℕ) (h : Twenty wire) (p : Twenty h.rest) → wire ≡ whole h p
from_whole wire h p = h.is ∙ ap (λ (l : List ℕ). h.p0 ∷ h.p1 ∷ h.p2 ∷ h.p3 ∷ h.p4 ∷ h.p5 ∷ h.p6 ∷ h.p7 ∷ h.p8 ∷ h.p9 ∷ h.p10 ∷ h.p11 ∷ h.p12
    ∷ h.p13 ∷ h.p14 ∷ h.p15 ∷ h.p16 ∷ h.p17 ∷ h.p18 ∷ h.p19 ∷ l) p.is

to_altered : (wire : List ℕ) (h : Twenty wire) (p : Twenty h.rest) (x : ℕ) → with_number wire 28 x ≡ altered x h p
to_altered wire h p x = ap (λ (l : List ℕ). with_number l 28 x) (from_whole wire h p) ∙ changed h.p0 h.p1 h.p2 h.p3 h.p4 h.p5 h.p6 h.p7 h.p8
    h.p9 h.p10 h.p11 h.p12 h.p13 h.p14 h.p15 h.p16 h.p17 h.p18 h.p19 p.p0 p.p1 p.p2 p.p3 p.p4 p.p5 p.p6 p.p7 p.p8 p.p9 p.p10 p.p11 p.p12
    p.p13 p.p14 p.p15 p.p16 p.p17 p.p18 p.p19 p.rest x

head_kept : (wire : List ℕ) (h : Twenty wire) (p : Twenty h.rest) (own : List ℕ) (x : ℕ) → head_or_fate (with_number wire 28 x) own ≡ head_or_fate wire own
head_kept wire h p own x =
    ap (λ (l : List ℕ). head_or_fate l own) (to_altered wire h p x) ∙ same_head h.p0 h.p1 h.p2 h.p3 h.p4 h.p5 h.p6 h.p7 h.p8 h.p9 h.p10
    h.p11 h.p12 h.p13 h.p14 h.p15 h.p16 h.p17 h.p18 h.p19 p.p0 p.p1 p.p2 p.p3 p.p4 p.p5 p.p6 p.p7 p.p8 p.p9 p.p10 p.p11 p.p12 p.p13 p.p14
    p.p15 p.p16 p.p17 p.p18 p.p19 p.rest own x ∙ sym (ap (λ (l : List ℕ). head_or_fate l own) (from_whole wire h p))

later : {xs ys : List ℕ} (h : Twenty xs) (p : Twenty ys) (x at m : ℕ) → at ≡ 40 + m → drop at (altered x h p) ≡ drop at (whole h p)
later h p x at m e =
    let steps : at ≡ suc (suc (suc (suc (suc
    (suc (suc (suc (suc (suc (suc (suc (suc (suc
    (suc (suc (suc (suc (suc (suc (suc (suc (suc
    (suc (suc (suc (suc (suc (suc (suc (suc (suc (suc (suc (suc (suc (suc (suc (suc (suc m))))))))))))))))))))))))))))))))))))))) = omega arith in
    ap (λ (k : ℕ). drop k (altered x h p)) steps ∙ sym (ap (λ (k : ℕ). drop k (whole h p)) steps)

text_kept : (wire : List ℕ) (h : Twenty wire) (p : Twenty h.rest) (x at end : ℕ) → 40 ≤ at → slice_range (with_number wire 28 x) at end
    ≡ slice_range wire at end
text_kept wire h p x at end far =
    ap (λ (l : List ℕ). take (end - at) (drop at l)) (to_altered wire h p x)
    ∙ ap (λ (l : List ℕ). take (end - at) l) (later h p x at (at - 40) (omega arith))
    ∙ sym (ap (λ (l : List ℕ). take (end - at) (drop at l)) (from_whole wire h p))

two : (a b : ℕ) → b < 256 → a ∷ b ∷ [] ≡ word_bytes (256 * a + b)
two a b low =
    let high : a ≡ (256 * a + b) / 256 = omega (arith, low) in
    let rest : b ≡ (256 * a + b) % 256 = omega (arith, low) in
    ap (λ (n : ℕ). n ∷ b ∷ []) high ∙ ap (λ (n : ℕ). (256 * a + b) / 256 ∷ n ∷ []) rest

same_shift : (key : Key) (a c d e b f g i : List ℕ) → a ≡ b → c ≡ f → d ≡ g → e ≡ i → wrap (sip_hash key (a ++ c ++ d ++ e))
    ≡ wrap (sip_hash key (b ++ f ++ g ++ i))
same_shift key a c d e b f g i p q r s =
    ap (λ (l : List ℕ). wrap (sip_hash key (l ++ c ++ d ++ e))) p ∙ ap (λ (l : List ℕ). wrap (sip_hash key (b ++ l ++ d ++ e))) q
    ∙ ap (λ (l : List ℕ). wrap (sip_hash key (b ++ f ++ l ++ e))) r ∙ ap (λ (l : List ℕ). wrap (sip_hash key (b ++ f ++ g ++ l))) s

same_arrival : (head : IpHead) (s : Segment) (x y : ℕ) (t u : List ℕ) → x ≡ y → t ≡ u
    → Arrived (sockets_of head.source s) (plain_segment s.seq.0 x s.flags s.window s.mss t) ≡ Arrived (sockets_of head.source s)
    (plain_segment s.seq.0 y s.flags s.window s.mss u)
same_arrival head s x y t u p q =
    ap (λ (n : ℕ). Arrived (sockets_of head.source s) (plain_segment s.seq.0 n s.flags s.window s.mss t)) p
    ∙ ap (λ (l : List ℕ). Arrived (sockets_of head.source s) (plain_segment s.seq.0 y s.flags s.window s.mss l)) q

abbrev shifted_ack : Key → List ℕ → ℕ
shifted_ack key wire = wrap (long_at wire 28 + (4294967296 - arriving_shift key wire))

arrived : (key : Key) (own : Addr) (wire : List ℕ) (h : Twenty wire) (p : Twenty h.rest) (head : IpHead) (s : Segment) → ((k : ℕ) → slice_index wire k < 256)
    → head_or_fate wire own.0 ≡ Ok head → 40 ≤ head.total → segment_or_fate head wire ≡ Ok s
    → by_segment head (inward key wire) (Ok (with_ack (shifted_ack key wire) s)) ≡ received (Some key) own (by_segment head wire (Ok s))
arrived key own wire h p head s fits is enough segment =
    let facts = facts_at own.0 wire head is in
    let f = segment_facts head.source.0 head.target.0 (payload_of head wire) s segment in
    let n : ℕ = head.total - 40 in
    let here : payload_of head wire ≡ before p.p0 p.p1 p.p2 p.p3 p.p4 p.p5 p.p6 p.p7 p.p8 p.p9 p.p10 p.p11 p.p12 p.p13 p.p14 p.p15 p.p16
    p.p17 p.p18 p.p19 (take n p.rest) =
    ap (λ (l : List ℕ). payload_of head l) (from_whole wire h p) ∙ cut n head.total p.p0 p.p1 p.p2 p.p3 p.p4 p.p5 p.p6 p.p7 p.p8 p.p9 p.p10
    p.p11 p.p12 p.p13 p.p14 p.p15 p.p16 p.p17 p.p18 p.p19 p.rest (omega arith) in
    let fields : s ≡ fields_of (before p.p0 p.p1 p.p2 p.p3 p.p4 p.p5 p.p6 p.p7 p.p8 p.p9 p.p10 p.p11 p.p12 p.p13 p.p14 p.p15 p.p16 p.p17
    p.p18 p.p19 (take n p.rest)) = f.is ∙ ap (λ (l : List ℕ). fields_of l) here in
    let ack : long_at wire 28 ≡ s.ack.0 = ap (λ (l : List ℕ). long_at l 28) (from_whole wire h p) ∙ sym (ap (λ (t : Segment). t.ack.0) fields) in
    let low : p.p1 < 256 = subst (λ (l : List ℕ). slice_index l 21 < 256) (from_whole wire h p) (fits 21) in
    let low3 : p.p3 < 256 = subst (λ (l : List ℕ). slice_index l 23 < 256) (from_whole wire h p) (fits 23) in
    let from : two_at wire 20 ≡ word_bytes s.from.0 =
    ap (λ (l : List ℕ). two_at l 20) (from_whole wire h p) ∙ two p.p0 p.p1 low ∙ sym (ap (λ (t : Segment). word_bytes t.from.0) fields) in
    let to : two_at wire 22 ≡ word_bytes s.to.0 =
    ap (λ (l : List ℕ). two_at l 22) (from_whole wire h p) ∙ two p.p2 p.p3 low3 ∙ sym (ap (λ (t : Segment). word_bytes t.to.0) fields) in
    let shift : arriving_shift key wire ≡ pair_shift key own head.source s.from s.to =
    same_shift key (address_at wire 12) (address_at wire 16) (two_at wire 20) (two_at wire 22) (address_at head.source.0 0)
    (address_at own.0 0) (word_bytes s.from.0) (word_bytes s.to.0)
    (sym (ap (λ (l : List ℕ). address_at l 0) facts.source)) (ap (λ (l : List ℕ). address_at l 0) (ours own.0 wire head is)) from to in
    let far : 40 ≤ s.text_at = (let e = ap (λ (t : Segment). t.text_at) f.is in omega (arith, e, f.least)) in
    same_arrival head s (shifted_ack key wire) (wrap (s.ack.0 + (4294967296 - pair_shift key own head.source s.from s.to)))
    (slice_range (inward key wire) s.text_at (s.text_at + s.text_len)) (slice_range wire s.text_at (s.text_at + s.text_len))
    (ap (λ (a : ℕ). wrap (a + (4294967296 - arriving_shift key wire))) ack ∙ ap (λ (d : ℕ). wrap (s.ack.0 + (4294967296 - d))) shift)
    (text_kept wire h p (shifted_ack key wire) s.text_at (s.text_at + s.text_len) far)

by_result : (key : Key) (own : Addr) (wire : List ℕ) (h : Twenty wire) (p : Twenty h.rest) (head : IpHead) (r : Result Segment TcpFate)
    → ((k : ℕ) → slice_index wire k < 256)
    → head_or_fate wire own.0 ≡ Ok head → 40 ≤ head.total → segment_or_fate head wire ≡ r
    → by_segment head (inward key wire) (received_with_ack (shifted_ack key wire) r) ≡ received (Some key) own (by_segment head wire r)
by_result key own wire h p head (Err fate) fits is enough segment = refl
by_result key own wire h p head (Ok s) fits is enough segment = arrived key own wire h p head s fits is enough segment

too_short : (key : Key) (own : Addr) (wire : List ℕ) (head : IpHead) → HeadFacts head wire → head.total < 40
    → by_segment head (inward key wire) (segment_or_fate head (inward key wire)) ≡ received (Some key) own (by_segment head wire (segment_or_fate head wire))
too_short key own wire head facts few =
    let old = short_segment head.source.0 head.target.0 (payload_of head wire) (let w = payload_within head wire facts.least in omega (arith, w, few)) in
    let new = short_segment head.source.0 head.target.0 (payload_of head (inward key wire)) (let w = payload_within head (inward key wire)
    facts.least in omega (arith, w, few)) in
    ap (λ (r : Result Segment TcpFate). by_segment head (inward key wire) r) new
    ∙ sym (ap (λ (r : Result Segment TcpFate). received (Some key) own (by_segment head wire r)) old)

of_head : (key : Key) (own : Addr) (wire : List ℕ) (h : Twenty wire) (p : Twenty h.rest) (head : IpHead)
    → ((k : ℕ) → slice_index wire k < 256) → slice_index wire 9 ≡ 6
    → head_or_fate wire own.0 ≡ Ok head → by_head (inward key wire) (Ok head) ≡ received (Some key) own (by_head wire (Ok head))
of_head key own wire h p head fits nine is =
    let facts = facts_at own.0 wire head is in
    let tcp : head.proto ≡ Tcp = names_tcp wire head nine facts.fields in
    let target : head.target.0 ≡ own.0 = facts.target ∙ ours own.0 wire head is in
    let passes : head_or_fate wire head.target.0 ≡ Ok head = ap (λ (l : List ℕ). head_or_fate wire l) target ∙ is in
    let inner : by_segment head (inward key wire) (segment_or_fate head (inward key wire)) ≡ received (Some key) own
    (by_segment head wire (segment_or_fate head wire)) =
    by_bool (nat_lt head.total 40) (λ few. too_short key own wire head facts (lt_from head.total 40 few))
    (λ many.
    let enough : 40 ≤ head.total = at_least head.total 40 many in
    let carried = carries_over head wire (shifted_ack key wire) passes enough fits (omega arith) in
    ap (λ (r : Result Segment TcpFate). by_segment head (inward key wire) r) carried.segment
    ∙ by_result key own wire h p head (segment_or_fate head wire) fits is enough refl) in
    ap (λ (proto : Proto). by_proto proto head (inward key wire)) tcp ∙ inner
    ∙ sym (ap (λ (proto : Proto). received (Some key) own (by_proto proto head wire)) tcp)

by_fate : (key : Key) (own : Addr) (wire : List ℕ) (h : Twenty wire) (p : Twenty h.rest) (r : Result IpHead IpFate)
    → ((k : ℕ) → slice_index wire k < 256) → slice_index wire 9 ≡ 6
    → head_or_fate wire own.0 ≡ r → by_head (inward key wire) r ≡ received (Some key) own (by_head wire r)
by_fate key own wire h p (Err fate) fits nine is = refl
by_fate key own wire h p (Ok head) fits nine is = of_head key own wire h p head fits nine is

shifted : (key : Key) (own : Addr) (wire : List ℕ) → All IsByte wire → is_tcp wire ≡ true → event_of own (inward key wire)
    ≡ received (Some key) own (event_of own wire)
shifted key own wire bytes named =
    let parts = and_parts (nat_le 40 (length wire)) (slice_index wire 9 == 6) named in
    let long : 40 ≤ length wire = le_from 40 (length wire) parts.0 in
    let nine : slice_index wire 9 ≡ 6 = eqb-true (slice_index wire 9) 6 parts.1 in
    let h : Twenty wire = split wire (omega (arith, long)) in
    let p : Twenty h.rest = split h.rest (let l = ap length h.is in omega (arith, l, long)) in
    ap (λ (r : Result IpHead IpFate). by_head (inward key wire) r) (head_kept wire h p own.0 (shifted_ack key wire))
    ∙ by_fate key own wire h p (head_or_fate wire own.0) (byte_at wire bytes) nine refl

by_name : (key : Key) (own : Addr) (wire : List ℕ) (b : Bool) → All IsByte wire → is_tcp wire ≡ b
    → event_of own (if b then inward key wire else wire) ≡ received (Some key) own (event_of own wire)
by_name key own wire true bytes is = shifted key own wire bytes is
by_name key own wire false bytes is = other key own wire (head_or_fate wire own.0) is refl

pub arriving_is : ArrivingIsShifted
unfolding arriving
arriving_is None own wire bytes = refl
arriving_is (Some key) own wire bytes = by_name key own wire (is_tcp wire) bytes refl
