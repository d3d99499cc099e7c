-- One changed byte: a datagram that passed every check is refused at every address.
-- [add: fate] A datagram with one changed byte and the further check.
use Rattle.link_world.proofs.Prelude.{All, IcmpRefused, EchoAsked, option_map_or, ◌≡◌, ◌≢◌, ℕ, zero, suc, ◌+◌, ◌-◌, ◌*◌, ◌%◌, ◌<◌, ◌≤◌}
use Rattle.link_world.proofs.Prelude.{Bool, true, false, not, ◌||◌, ◌⊎◌, inl, inr, List, [], ◌∷◌, ◌++◌, length, take, drop, set, refl, sym}
use Rattle.link_world.proofs.Prelude.{ap, ◌∙◌, subst, arith, Option, Some, None, Result, Ok, Err, slice_index, length-append, length-drop}
use Rattle.link_world.proofs.Prelude.{eqb, ltb, bytes_eq, bit_xor, append_assoc, if◌then◌else◌, eqb-true, ne_eqb, bytes_eq-Decides}
use Rattle.link_world.proofs.Prelude.{xor_of_8, xor_assoc, xor_self, xor_zero_l, address_at, checksum_of, word_at, Addr, one_byte}
use Rattle.link_world.proofs.Prelude.{head_or_fate, head_by, proto_of, IsHeadOf, payload_of, IpHead, IpFate, Proto, Icmp, head_facts}
use Rattle.link_world.proofs.Prelude.{echo_fate, segment_in, segment_or_fate, header_len, pseudo_header, Segment, IsByte, event_of, by_head}
use Rattle.link_world.proofs.Prelude.{by_proto, by_segment, changed, PassesBy, IsWholeDatagram, is_refused, both_ways, choose}
use Rattle.uip_ipv4.specs.declared.fate.IpFate.TheVariants as Ip
use Rattle.uip_ipv4.specs.declared.proto.Proto.TheVariants.{Tcp}
use Rattle.icmp_echo.specs.declared.fate.IcmpFate.TheVariants as IcmpFate
use Rattle.tcp_segment.specs.declared.fate.TcpFate.TheVariants as TcpFate

-- a list around one of its bytes
pub record Around (bytes : List ℕ) (at : ℕ) (other : ℕ) : Type 0 where
  pub prefix : List ℕ
  pub one : ℕ
  pub back : List ℕ
  pub place : length prefix ≡ at
  pub is : bytes ≡ prefix ++ one ∷ back
  pub index : slice_index bytes at ≡ one
  pub written : set bytes at other ≡ prefix ++ other ∷ back

around : (bytes : List ℕ) (at other : ℕ) → at < length bytes → Around bytes at other
around [] at other l = absurd (omega arith)
around (x ∷ xs) zero other l = record { prefix = []; one = x; back = xs; place = refl; is = refl; index = refl; written = refl }
around (x ∷ xs) (suc at) other l =
    let r = around xs at other (omega arith) in
    record {
      prefix = x ∷ r.prefix;
      one = r.one;
      back = r.back;
      place = ap suc r.place;
      is = ap (λ t. x ∷ t) r.is;
      index = r.index;
      written = ap (λ t. x ∷ t) r.written;
    }

take_around : (prefix back : List ℕ) (v n : ℕ) → length prefix < n → take n (prefix ++ v ∷ back) ≡ prefix ++ v ∷ take (n - length prefix - 1) back
take_around [] back v zero l = absurd (omega arith)
take_around [] back v (suc n) l = ap (λ k. v ∷ take k back) (omega arith)
take_around (x ∷ prefix) back v zero l = absurd (omega arith)
take_around (x ∷ prefix) back v (suc n) l = ap (λ t. x ∷ t) (take_around prefix back v n (omega arith) ∙ ap (λ k. prefix ++ v ∷ take k back) (omega arith))

drop_around : (prefix rest : List ℕ) (n : ℕ) → n ≤ length prefix → drop n (prefix ++ rest) ≡ drop n prefix ++ rest
drop_around prefix rest zero l = refl
drop_around [] rest (suc n) l = absurd (omega arith)
drop_around (x ∷ prefix) rest (suc n) l = drop_around prefix rest n (omega arith)

take_prefix : (prefix rest more : List ℕ) (n : ℕ) → n ≤ length prefix → take n (prefix ++ rest) ≡ take n (prefix ++ more)
take_prefix prefix rest more zero l = refl
take_prefix [] rest more (suc n) l = absurd (omega arith)
take_prefix (x ∷ prefix) rest more (suc n) l = ap (λ t. x ∷ t) (take_prefix prefix rest more n (omega arith))

index_prefix : (prefix rest more : List ℕ) (n : ℕ) → n < length prefix → slice_index (prefix ++ rest) n ≡ slice_index (prefix ++ more) n
index_prefix [] rest more n l = absurd (omega arith)
index_prefix (x ∷ prefix) rest more zero l = refl
index_prefix (x ∷ prefix) rest more (suc n) l = index_prefix prefix rest more n (omega arith)

take_all : (xs : List ℕ) (n : ℕ) → length xs ≤ n → take n xs ≡ xs
take_all [] zero l = refl
take_all [] (suc n) l = refl
take_all (x ∷ xs) zero l = absurd (omega arith)
take_all (x ∷ xs) (suc n) l = ap (λ t. x ∷ t) (take_all xs n (omega arith))

xor_back : (a b : ℕ) → bit_xor a b ≡ a → b ≡ 0
xor_back a b e = sym (xor_zero_l b) ∙ ap (λ z. bit_xor z b) (sym (xor_self a)) ∙ xor_assoc a a b ∙ ap (bit_xor a) e ∙ xor_self a

byte_changes : (a mask : ℕ) → a < 256 → 1 ≤ mask → mask < 256 → (bit_xor a mask < 256) × (a ≢ bit_xor a mask)
byte_changes a mask l k n = (xor_of_8 a mask l n, λ e. absurd (let z = xor_back a mask (sym e) in omega (arith, z)))

passed : {A E : Type 0} (b : Bool) (f : E) (x : Result A E) (h : A) → (if b then Err f else x) ≡ Ok h → (b ≡ false) × (x ≡ Ok h)
passed true f x h e = absurd (cc)
passed false f x h e = (refl, e)

not_refused : {E : Type 0} (b : Bool) (f : E) (x : Option E) → (if b then Some f else x) ≡ None → (b ≡ false) × (x ≡ None)
not_refused true f x e = absurd (cc)
not_refused false f x e = (refl, e)

is_zero : (n : ℕ) → not (eqb n 0) ≡ false → n ≡ 0
is_zero n h = eqb-true n 0 (Rattle.uip_node.proofs.Basics.not-false (eqb n 0) h)

not_zero : (n : ℕ) → n ≢ 0 → not (eqb n 0) ≡ true
not_zero n h = ap not (ne_eqb n 0 h)

head_sum : (head : IpHead) (bytes : List ℕ) → IsHeadOf head bytes → checksum_of (take 20 bytes) ≡ 0
unfolding head_or_fate
head_sum head bytes is =
    let p1 = passed (ltb (length bytes) 20) Ip.Short _ head is in
    let p2 = passed (not (eqb (slice_index bytes 0) 69)) Ip.Version _ head p1.1 in
    let p3 = passed (ltb (word_at bytes 2) 20 || ltb (length bytes) (word_at bytes 2)) Ip.Length _ head p2.1 in
    let p4 = passed (not (eqb (word_at bytes 6 % 16384) 0)) Ip.Fragment _ head p3.1 in
    let p5 = passed (not (eqb (checksum_of (take 20 bytes)) 0)) Ip.Checksum _ head p4.1 in
    is_zero (checksum_of (take 20 bytes)) p5.0

segment_sum : (source target payload : List ℕ) (s : Segment) → segment_in source target payload ≡ Ok s
    → checksum_of (pseudo_header source target (length payload) ++ payload) ≡ 0
unfolding segment_in
segment_sum source target payload s is =
    let p1 = passed (ltb (length payload) 20) TcpFate.Short _ s is in
    let p2 = passed (ltb (header_len payload) 20 || ltb (length payload) (header_len payload)) TcpFate.Offset _ s p1.1 in
    let p3 = passed (not (eqb (checksum_of (pseudo_header source target (length payload) ++ payload)) 0)) TcpFate.Checksum _ s p2.1 in
    is_zero (checksum_of (pseudo_header source target (length payload) ++ payload)) p3.0

echo_sum : (message : List ℕ) → echo_fate message ≡ None → checksum_of message ≡ 0
echo_sum message is =
    let p1 = not_refused (ltb (length message) 8) IcmpFate.Short _ is in
    let p2 = not_refused (not (eqb (checksum_of message) 0)) IcmpFate.Checksum _ p1.1 in
    is_zero (checksum_of message) p2.0

-- a wrong header is refused at every address
head_refused : (bytes : List ℕ) (own : Addr) → checksum_of (take 20 bytes) ≢ 0 → is_refused (by_head bytes (head_or_fate bytes own.0)) ≡ true
unfolding head_or_fate
head_refused bytes own n =
    choose (λ r. is_refused (by_head bytes r) ≡ true) (ltb (length bytes) 20) _ _ (λ e. refl) (λ e.
    choose (λ r. is_refused (by_head bytes r) ≡ true) (not (eqb (slice_index bytes 0) 69)) _ _ (λ e. refl) (λ e.
    choose (λ r. is_refused (by_head bytes r) ≡ true) (ltb (word_at bytes 2) 20 || ltb (length bytes) (word_at bytes 2)) _ _ (λ e. refl) (λ e.
    choose (λ r. is_refused (by_head bytes r) ≡ true) (not (eqb (word_at bytes 6 % 16384) 0)) _ _ (λ e. refl) (λ e.
    choose (λ r. is_refused (by_head bytes r) ≡ true) (not (eqb (checksum_of (take 20 bytes)) 0)) _ _ (λ e. refl)
    (λ e. absurd (n (is_zero (checksum_of (take 20 bytes)) e)))))))

-- what the checks of the header look at
abbrev decided : ℕ → ℕ → ℕ → ℕ → ℕ → List ℕ → List ℕ → Result IpHead IpFate → Result IpHead IpFate
decided len iss total fragment sum target own last =
    if ltb len 20 then Err Ip.Short
    else if not (eqb iss 69) then Err Ip.Version
    else if ltb total 20 || ltb len total then Err Ip.Length
    else if not (eqb (fragment % 16384) 0) then Err Ip.Fragment
    else if not (eqb sum 0) then Err Ip.Checksum
    else if not (bytes_eq target own) then Err Ip.NotOurs
    else last

-- only the first 20 bytes and the length matter to the header
same_head : (prefix back : List ℕ) (one other : ℕ) (own : List ℕ) → 20 ≤ length prefix → head_or_fate (prefix ++ other ∷ back) own
    ≡ head_or_fate (prefix ++ one ∷ back) own
unfolding head_or_fate
same_head prefix back one other own l =
    let a : List ℕ = prefix ++ other ∷ back in
    let b : List ℕ = prefix ++ one ∷ back in
    let i : (n : ℕ) → n < length prefix → slice_index a n ≡ slice_index b n = λ n h. index_prefix prefix (other ∷ back) (one ∷ back) n h in
    let w : (n : ℕ) → n + 1 < length prefix → word_at a n ≡ word_at b n = λ n h. ap (λ x. 256 * x + slice_index a (n + 1))
    (i n (omega (arith, h))) ∙ ap (λ x. 256 * slice_index b n + x) (i (n + 1) h) in
    let len : length a ≡ length b = omega (arith, length-append prefix (other ∷ back), length-append prefix (one ∷ back)) in
    let t : take 20 a ≡ take 20 b = take_prefix prefix (other ∷ back) (one ∷ back) 20 l in
    let addr : (n : ℕ) → n + 3 < length prefix → address_at a n ≡ address_at b n = λ n h.
    ap (λ x. x ∷ slice_index a (n + 1) ∷ slice_index a (n + 2) ∷ slice_index a (n + 3) ∷ []) (i n (omega (arith, h)))
    ∙ ap (λ x. slice_index b n ∷ x ∷ slice_index a (n + 2) ∷ slice_index a (n + 3) ∷ []) (i (n + 1) (omega (arith, h)))
    ∙ ap (λ x. slice_index b n ∷ slice_index b (n + 1) ∷ x ∷ slice_index a (n + 3) ∷ []) (i (n + 2) (omega (arith, h)))
    ∙ ap (λ x. slice_index b n ∷ slice_index b (n + 1) ∷ slice_index b (n + 2) ∷ x ∷ []) (i (n + 3) h) in
    let last : (p : Option Proto) → head_by p a ≡ head_by p b = λ p. same_by p a b (w 2 (omega (arith, l))) (addr 12 (omega (arith, l)))
    (addr 16 (omega (arith, l))) in
    ap (λ x. decided x (slice_index a 0) (word_at a 2) (word_at a 6) (checksum_of (take 20 a)) (address_at a 16) own
    (head_by (proto_of (slice_index a 9)) a)) len
    ∙ ap (λ x. decided (length b) x (word_at a 2) (word_at a 6) (checksum_of (take 20 a)) (address_at a 16) own
    (head_by (proto_of (slice_index a 9)) a)) (i 0 (omega (arith, l)))
    ∙ ap (λ x. decided (length b) (slice_index b 0) x (word_at a 6) (checksum_of (take 20 a)) (address_at a 16) own
    (head_by (proto_of (slice_index a 9)) a)) (w 2 (omega (arith, l)))
    ∙ ap (λ x. decided (length b) (slice_index b 0) (word_at b 2) x (checksum_of (take 20 a)) (address_at a 16) own
    (head_by (proto_of (slice_index a 9)) a)) (w 6 (omega (arith, l)))
    ∙ ap (λ x. decided (length b) (slice_index b 0) (word_at b 2) (word_at b 6) (checksum_of x) (address_at a 16) own
    (head_by (proto_of (slice_index a 9)) a)) t
    ∙ ap (λ x. decided (length b) (slice_index b 0) (word_at b 2) (word_at b 6) (checksum_of (take 20 b)) x own
    (head_by (proto_of (slice_index a 9)) a)) (addr 16 (omega (arith, l)))
    ∙ ap (λ x. decided (length b) (slice_index b 0) (word_at b 2) (word_at b 6) (checksum_of (take 20 b)) (address_at b 16) own
    (head_by (proto_of x) a)) (i 9 (omega (arith, l)))
    ∙ ap (λ x. decided (length b) (slice_index b 0) (word_at b 2) (word_at b 6) (checksum_of (take 20 b)) (address_at b 16) own x)
    (last (proto_of (slice_index b 9)))
  where
    same_by : (p : Option Proto) (a b : List ℕ) → word_at a 2 ≡ word_at b 2 → address_at a 12 ≡ address_at b 12
        → address_at a 16 ≡ address_at b 16 → head_by p a ≡ head_by p b
    same_by None a b t s d = refl
    same_by (Some proto) a b t s d =
        ap (λ x. Ok (record { total = x; proto = proto; source = record { 0 = address_at a 12 }; target = record { 0 = address_at a 16 } })) t
        ∙ ap (λ x. Ok (record { total = word_at b 2; proto = proto; source = record { 0 = x }; target = record { 0 = address_at a 16 } })) s
        ∙ ap (λ x. Ok (record { total = word_at b 2; proto = proto; source = record { 0 = address_at b 12 }; target = record { 0 = x } })) d

elsewhere : (bytes own : List ℕ) → bytes_eq (address_at bytes 16) own ≡ false → (fate : IpFate) × (head_or_fate bytes own ≡ Err fate)
unfolding head_or_fate
elsewhere bytes own e =
    choose (λ r. (fate : IpFate) × (r ≡ Err fate)) (ltb (length bytes) 20) _ _ (λ z. (Ip.Short, refl)) (λ z.
    choose (λ r. (fate : IpFate) × (r ≡ Err fate)) (not (eqb (slice_index bytes 0) 69)) _ _ (λ z. (Ip.Version, refl)) (λ z.
    choose (λ r. (fate : IpFate) × (r ≡ Err fate)) (ltb (word_at bytes 2) 20 || ltb (length bytes) (word_at bytes 2)) _ _ (λ z. (Ip.Length, refl)) (λ z.
    choose (λ r. (fate : IpFate) × (r ≡ Err fate)) (not (eqb (word_at bytes 6 % 16384) 0)) _ _ (λ z. (Ip.Fragment, refl)) (λ z.
    choose (λ r. (fate : IpFate) × (r ≡ Err fate)) (not (eqb (checksum_of (take 20 bytes)) 0)) _ _ (λ z. (Ip.Checksum, refl)) (λ z.
    choose (λ r. (fate : IpFate) × (r ≡ Err fate)) (not (bytes_eq (address_at bytes 16) own)) _ _ (λ z. (Ip.NotOurs, refl))
    (λ z. absurd (let y : bytes_eq (address_at bytes 16) own ≡ true = Rattle.uip_node.proofs.Basics.not-false
    (bytes_eq (address_at bytes 16) own) z in cc)))))))

-- at another address than its own it is refused, at its own it has this header
head_or_refused : (head : IpHead) (bytes : List ℕ) (own : List ℕ) → IsHeadOf head bytes
    → ((fate : IpFate) × (head_or_fate bytes own ≡ Err fate)) ⊎ (head_or_fate bytes own ≡ Ok head)
head_or_refused head bytes own is =
    both_ways (bytes_eq (address_at bytes 16) own)
    (λ e. let f = head_facts head bytes is in
    inr (subst (λ x. head_or_fate bytes x ≡ Ok head) (f.target ∙ (bytes_eq-Decides (address_at bytes 16) own).0 e) is))
    (λ e. inl (elsewhere bytes own e))

-- a wrong segment, and a wrong message, are refused
segment_refused : (head : IpHead) (bytes payload : List ℕ) → payload_of head bytes ≡ payload
    → checksum_of (pseudo_header head.source.0 head.target.0 (length payload) ++ payload) ≢ 0
    → is_refused (by_segment head bytes (segment_or_fate head bytes)) ≡ true
unfolding segment_in
segment_refused head bytes payload e n =
    subst (λ x. is_refused (by_segment head bytes (segment_in head.source.0 head.target.0 x)) ≡ true) (sym e)
    (choose (λ r. is_refused (by_segment head bytes r) ≡ true) (ltb (length payload) 20) _ _ (λ z. refl) (λ z.
    choose (λ r. is_refused (by_segment head bytes r) ≡ true) (ltb (header_len payload) 20 || ltb (length payload) (header_len payload)) _ _ (λ z. refl) (λ z.
    choose (λ r. is_refused (by_segment head bytes r) ≡ true)
    (not (eqb (checksum_of (pseudo_header head.source.0 head.target.0 (length payload) ++ payload)) 0)) _ _ (λ z. refl)
    (λ z. absurd (n (is_zero (checksum_of (pseudo_header head.source.0 head.target.0 (length payload) ++ payload)) z))))))

echo_refused : (head : IpHead) (bytes message : List ℕ) → checksum_of message ≢ 0
    → is_refused (option_map_or IcmpRefused (echo_fate message) (EchoAsked (take head.total bytes))) ≡ true
echo_refused head bytes message n =
    choose (λ r. is_refused (option_map_or IcmpRefused r (EchoAsked (take head.total bytes))) ≡ true) (ltb (length message) 8) _ _ (λ z. refl) (λ z.
    choose (λ r. is_refused (option_map_or IcmpRefused r (EchoAsked (take head.total bytes))) ≡ true) (not (eqb (checksum_of message) 0)) _
    _ (λ z. refl) (λ z. absurd (n (is_zero (checksum_of message) z))))

payload_is : (head : IpHead) (prefix back : List ℕ) (v : ℕ) → head.total ≡ length (prefix ++ v ∷ back) → 20 ≤ length prefix
    → payload_of head (prefix ++ v ∷ back) ≡ drop 20 prefix ++ v ∷ back
payload_is head prefix back v t l =
    let d : drop 20 (prefix ++ v ∷ back) ≡ drop 20 prefix ++ v ∷ back = drop_around prefix (v ∷ back) 20 l in
    ap (take (head.total - 20)) d ∙ take_all (drop 20 prefix ++ v ∷ back) (head.total - 20)
    (omega (arith, t, length-append prefix (v ∷ back), length-append (drop 20 prefix) (v ∷ back), length-drop 20 prefix))

late_refused : (proto : Proto) (head : IpHead) (prefix back : List ℕ) (one other : ℕ) → one < 256 → other < 256 → one ≢ other
    → 20 ≤ length prefix → head.total ≡ length (prefix ++ one ∷ back) → PassesBy proto head (prefix ++ one ∷ back) →
    is_refused (by_proto proto head (prefix ++ other ∷ back)) ≡ true
late_refused Tcp head prefix back one other a b n l t p =
    let tail : List ℕ = drop 20 prefix in
    let len : length (prefix ++ one ∷ back) ≡ length (prefix ++ other ∷ back) = omega (
      arith,
      length-append prefix (other ∷ back),
      length-append prefix (one ∷ back),
    ) in
    let was : payload_of head (prefix ++ one ∷ back) ≡ tail ++ one ∷ back = payload_is head prefix back one t l in
    let now : payload_of head (prefix ++ other ∷ back) ≡ tail ++ other ∷ back = payload_is head prefix back other (t ∙ len) l in
    let pseudo : ℕ → List ℕ = λ k. pseudo_header head.source.0 head.target.0 k in
    let ok : segment_in head.source.0 head.target.0 (tail ++ one ∷ back) ≡ Ok p.0 = subst (λ x. segment_in head.source.0 head.target.0 x ≡ Ok p.0) was p.1 in
    let zero_was : checksum_of (pseudo (length (tail ++ one ∷ back)) ++ (tail ++ one ∷ back)) ≡ 0 = segment_sum head.source.0 head.target.0
    (tail ++ one ∷ back) p.0 ok in
    let size : length (tail ++ one ∷ back) ≡ length (tail ++ other ∷ back) = omega (
      arith,
      length-append tail (one ∷ back),
      length-append tail (other ∷ back),
    ) in
    let k : ℕ = length (tail ++ other ∷ back) in
    let tells = one_byte (pseudo k ++ tail) back one other a b n in
    segment_refused head (prefix ++ other ∷ back) (tail ++ other ∷ back) now
    (λ z. tells (ap checksum_of (append_assoc (pseudo k) tail (one ∷ back)) ∙ ap (λ x. checksum_of (pseudo x ++ (tail ++ one ∷ back)))
    (sym size) ∙ zero_was ∙ sym z ∙ ap checksum_of (sym (append_assoc (pseudo k) tail (other ∷ back)))))
late_refused Icmp head prefix back one other a b n l t p =
    let tail : List ℕ = drop 20 prefix in
    let len : length (prefix ++ one ∷ back) ≡ length (prefix ++ other ∷ back) = omega (
      arith,
      length-append prefix (other ∷ back),
      length-append prefix (one ∷ back),
    ) in
    let was : payload_of head (prefix ++ one ∷ back) ≡ tail ++ one ∷ back = payload_is head prefix back one t l in
    let now : payload_of head (prefix ++ other ∷ back) ≡ tail ++ other ∷ back = payload_is head prefix back other (t ∙ len) l in
    let zero_was : checksum_of (tail ++ one ∷ back) ≡ 0 = echo_sum (tail ++ one ∷ back) (ap echo_fate (sym was) ∙ p) in
    let tells = one_byte tail back one other a b n in
    subst (λ x. is_refused (option_map_or IcmpRefused (echo_fate x) (EchoAsked (take head.total (prefix ++ other ∷ back)))) ≡ true) (sym now)
    (echo_refused head (prefix ++ other ∷ back) (tail ++ other ∷ back) (λ z. tells (zero_was ∙ sym z)))

byte_in : (prefix back : List ℕ) (one : ℕ) → All IsByte (prefix ++ one ∷ back) → one < 256
byte_in [] back one h = h zero one (omega arith)
byte_in (x ∷ prefix) back one h = byte_in prefix back one (λ k d l. h (suc k) d (omega (arith, l)))

-- One changed byte: the datagram is refused at every address.
pub damage_refused : (bytes : List ℕ) (at mask : ℕ) (own : Addr) → IsWholeDatagram bytes → at < length bytes → 1 ≤ mask → mask < 256
    → is_refused (event_of own (changed bytes at mask)) ≡ true
damage_refused bytes at mask own w l m1 m2 =
    let r = around bytes at (bit_xor (slice_index bytes at) mask) l in
    let other : ℕ = bit_xor (slice_index bytes at) mask in
    let new : List ℕ = r.prefix ++ other ∷ r.back in
    let one_low : r.one < 256 = byte_in r.prefix r.back r.one (subst (λ x. All IsByte x) r.is w.all_bytes) in
    let c = byte_changes (slice_index bytes at) mask (subst (λ x. x < 256) (sym r.index) one_low) m1 m2 in
    let apart : r.one ≢ other = λ e. c.1 (r.index ∙ e) in
    subst (λ x. is_refused (event_of own x) ≡ true) (sym r.written)
    (elim (low_or_not at 20) [
      | inl e ↦ (let f : length r.prefix < 20 = omega (arith, e, r.place) in
          let n : ℕ = 20 - length r.prefix - 1 in
          let was : take 20 bytes ≡ r.prefix ++ r.one ∷ take n r.back = ap (take 20) r.is ∙ take_around r.prefix r.back r.one 20 f in
          let now : take 20 new ≡ r.prefix ++ other ∷ take n r.back = take_around r.prefix r.back other 20 f in
          let tells = one_byte r.prefix (take n r.back) r.one other one_low c.0 apart in
          head_refused new own (λ z. tells (ap checksum_of (sym was) ∙ head_sum w.head bytes w.is ∙ sym z ∙ ap checksum_of now)))
      | inr e ↦ (let f : 20 ≤ length r.prefix = omega (arith, e, r.place) in
          let same : head_or_fate new own.0 ≡ head_or_fate bytes own.0 = same_head r.prefix r.back r.one other own.0 f
          ∙ ap (λ x. head_or_fate x own.0) (sym r.is) in
          elim (head_or_refused w.head bytes own.0 w.is) [
            | inl x ↦ subst (λ y. is_refused (by_head new y) ≡ true) (sym (same ∙ x.1)) refl
            | inr x ↦ subst (λ y. is_refused (by_head new y) ≡ true) (sym (same ∙ x))
                (late_refused w.head.proto w.head r.prefix r.back r.one other one_low c.0 apart f (w.total ∙ ap length r.is)
                (subst (λ y. PassesBy w.head.proto w.head y) r.is w.passes))
          ])
    ])
  where
    low_or_not : (a b : ℕ) → (a < b) ⊎ (b ≤ a)
    low_or_not a b = grind arith
