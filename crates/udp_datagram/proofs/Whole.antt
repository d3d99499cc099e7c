-- The fields of a header that passes every check but that of its protocol.
-- [add: fate] IP: what a header has that passes the further check.
use Rattle.std.proofs.Common.{◌≡◌, ℕ, ◌%◌, ◌≤◌, Bool, true, false, not, ◌||◌, List, length, take, slice_index, refl, arith, ltb, eqb}
use Rattle.std.proofs.Common.{if◌then◌else◌, Err, Result}
use Rattle.std.proofs.lemmas.Grind.{common_steps}
use Rattle.std.specs.Str.{bytes_eq}
use Rattle.uip_wire.specs.Prelude.{address_at, checksum_of, word_at}
use Rattle.uip_ipv4.specs.declared.head.IpHead.{IpHead}
use Rattle.uip_ipv4.specs.declared.fate.IpFate.{IpFate}
use Rattle.uip_ipv4.specs.declared.fate.IpFate.TheVariants.{Short, Version, Length, Fragment, Checksum, NotOurs}
use Rattle.uip_ipv4.specs.Prelude.{head_or_fate, head_by, proto_of}
use Rattle.udp_datagram.specs.Prelude.{IsWholeUdp, is_of_other_protocol}

lengths_passed : (short version length fragment sum other : Bool) (rest : Result IpHead IpFate)
    → is_of_other_protocol (if short then Err Short else if version then Err Version else if length then Err Length else if fragment then
    Err Fragment else if sum then Err Checksum else if other then Err NotOurs else rest) ≡ true
    → (short ≡ false) × (length ≡ false)
lengths_passed true version length fragment sum other rest e = cc
lengths_passed false true length fragment sum other rest e = cc
lengths_passed false false true fragment sum other rest e = cc
lengths_passed false false false fragment sum other rest e = (refl, refl)

fits : (total received : ℕ) → ltb total 20 || ltb received total ≡ false → (20 ≤ total) × (total ≤ received)
fits total received e = (grind (arith, common_steps), grind (arith, common_steps))

pub is_whole : (own datagram : List ℕ) → is_of_other_protocol (head_or_fate datagram own) ≡ true → IsWholeUdp datagram
unfolding head_or_fate
is_whole own datagram e =
    let p =
    lengths_passed (ltb (length datagram) 20) (not (eqb (slice_index datagram 0) 69))
    (ltb (word_at datagram 2) 20 || ltb (length datagram) (word_at datagram 2)) (not (eqb (word_at datagram 6 % 16384) 0))
    (not (eqb (checksum_of (take 20 datagram)) 0)) (not (bytes_eq (address_at datagram 16) own))
    (head_by (proto_of (slice_index datagram 9)) datagram) e in
    fits (word_at datagram 2) (length datagram) p.1
