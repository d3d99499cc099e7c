-- The IPv4 header without options (RFC 791, section 3.1): the fields of a received one, or why it is dropped; the bytes of one that is
-- sent.
-- [add: fate] IP: its check in the list of checks.
use Rattle.std.specs.Prelude.{◌≡◌, ◌≤◌, ◌+◌, ◌%◌, ◌==◌, ◌||◌, if◌then◌else◌, ◌∷◌, ◌++◌, [], bytes_eq, List, nat_lt, not, ℕ}
use Rattle.std.specs.Prelude.{length, take, slice_index, slice_range, Option, Some, None, Result, Ok, Err}
use Rattle.uip_wire.specs.Prelude.{address_at, checksum_of, word_at, bytes_of}
use Rattle.uip_ipv4.specs.declared.fate.IpFate.{IpFate}
use Rattle.uip_ipv4.specs.declared.fate.IpFate.TheVariants.{Short, Version, Length, Fragment, Checksum, NotOurs, Protocol}
use Rattle.uip_ipv4.specs.declared.head.IpHead.{IpHead}
use Rattle.uip_ipv4.specs.declared.proto.Proto.{Proto}
use Rattle.uip_ipv4.specs.declared.proto.Proto.TheVariants.{Icmp, Tcp}

-- The protocols that are accepted, by their numbers (RFC 790).
abbrev pub proto_of : ℕ → Option Proto
proto_of number = if number == 1 then Some Icmp else if number == 6 then Some Tcp else None

abbrev pub number_of : Proto → ℕ
number_of Icmp = 1
number_of Tcp = 6

-- The header's last check, and its fields.
abbrev pub head_by : Option Proto → List ℕ → Result IpHead IpFate
head_by None bytes = Err Protocol
head_by (Some proto) bytes = Ok (record {
  total = word_at bytes 2;
  proto = proto;
  source = record { 0 = address_at bytes 12 };
  target = record { 0 = address_at bytes 16 };
})

-- The header of a datagram to the address `own`, or the first check that fails.
unfoldable pub head_or_fate : List ℕ → List ℕ → Result IpHead IpFate
head_or_fate bytes own =
    if nat_lt (length bytes) 20 then Err Short
    else if not (slice_index bytes 0 == 69) then Err Version
    else if nat_lt (word_at bytes 2) 20 || nat_lt (length bytes) (word_at bytes 2) then Err Length
    else if not (word_at bytes 6 % 16384 == 0) then Err Fragment
    else if not (checksum_of (take 20 bytes) == 0) then Err Checksum
    else if not (bytes_eq (address_at bytes 16) own) then Err NotOurs
    else head_by (proto_of (slice_index bytes 9)) bytes

-- The datagram passes every check at the address that its header names, and these are its header's fields.
abbrev pub IsHeadOf : IpHead → List ℕ → Type 0
IsHeadOf head bytes = head_or_fate bytes head.target.0 ≡ Ok head

-- The payload of a datagram. Bytes beyond its total length are no part of it.
abbrev pub payload_of : IpHead → List ℕ → List ℕ
payload_of head bytes = slice_range bytes 20 head.total

-- The header of a datagram that is sent, for the protocol of this number and with this checksum: no options, no fragments, a time to live
-- of 64.
abbrev pub numbered_with : ℕ → ℕ → ℕ → ℕ → List ℕ → List ℕ → List ℕ
numbered_with sum total id number source target =
    bytes_of (17664 ∷ total ∷ id ∷ 0 ∷ (16384 + number) ∷ sum ∷ []) ++ source ++ target

-- The same with its own checksum.
unfoldable pub numbered_head : ℕ → ℕ → ℕ → List ℕ → List ℕ → List ℕ
numbered_head total id number source target =
    numbered_with (checksum_of (numbered_with 0 total id number source target)) total id number source target

-- The header for one of our protocols, with this checksum.
abbrev pub head_with : ℕ → ℕ → ℕ → Proto → List ℕ → List ℕ → List ℕ
head_with sum total id proto source target = numbered_with sum total id (number_of proto) source target

-- The same with its own checksum.
unfoldable pub head_bytes : ℕ → ℕ → Proto → List ℕ → List ℕ → List ℕ
head_bytes total id proto source target =
    head_with (checksum_of (head_with 0 total id proto source target)) total id proto source target

-- A header that was written before a whole datagram passes every check and is read back as written.
abbrev pub ReadsBack : Type 0
ReadsBack = (total id : ℕ) (proto : Proto) (source target rest : List ℕ) → length source ≡ 4 → length target ≡ 4
    → 20 ≤ total → total ≤ 20 + length rest
    → head_or_fate (head_bytes total id proto source target ++ rest) target
    ≡ Ok (record { total = total; proto = proto; source = record { 0 = source }; target = record { 0 = target } })
