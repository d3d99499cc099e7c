-- The length of a datagram, and the datagram in the packet that it was written into.
use Rattle.uip_node.proofs.Prelude.{◌≡◌, ℕ, ◌+◌, ◌-◌, ◌*◌, ◌≤◌, List, ◌++◌, length, take, drop, slice_range, Option, Some, None, refl, sym}
use Rattle.uip_node.proofs.Prelude.{ap, ◌∙◌, arith, length-take, length-drop, length-append, IsSome, take-append_seam, head_bytes}
use Rattle.uip_node.proofs.Prelude.{datagram_bytes, offset_of, segment_bytes, datagram_len, datagram_of, sent_in, Out}

-- both addresses have four bytes
abbrev pub HasAddrs : Out → Type 0
HasAddrs out = (length out.source.0 ≡ 4) × (length out.target.0 ≡ 4)

length_none : (out : Out) (text : List ℕ) → length out.source.0 ≡ 4 → length out.target.0 ≡ 4
    → length (datagram_bytes (datagram_of (record out { mss = None }) text)) ≡ 40 + length text
unfolding datagram_bytes head_bytes
length_none out text s t =
    let d = datagram_of (record out { mss = None }) text in
    omega (arith, s, t, length-append (d.source ++ d.target) (segment_bytes d), length-append d.source d.target)

length_some : (out : Out) (mss : ℕ) (text : List ℕ) → length out.source.0 ≡ 4 → length out.target.0 ≡ 4
    → length (datagram_bytes (datagram_of (record out { mss = Some mss }) text)) ≡ 44 + length text
unfolding datagram_bytes head_bytes
length_some out mss text s t =
    let d = datagram_of (record out { mss = Some mss }) text in
    omega (arith, s, t, length-append (d.source ++ d.target) (segment_bytes d), length-append d.source d.target)

by_option : (o : Option ℕ) (out : Out) (text : List ℕ) → length out.source.0 ≡ 4 → length out.target.0 ≡ 4
    → length (datagram_bytes (datagram_of (record out { mss = o }) text)) ≡ 20 + 4 * offset_of o + length text
by_option None out text s t = length_none out text s t
by_option (Some mss) out text s t = length_some out mss text s t

pub datagram_length : (out : Out) (text : List ℕ) → HasAddrs out → length (datagram_bytes (datagram_of out text)) ≡ 20 + 4 * offset_of out.mss + length text
datagram_length out text h = by_option out.mss out text h.0 h.1

-- a text that fits, cut out of an area that holds it
pub cut_length : (area : List ℕ) (at len : ℕ) → at + len ≤ length area → length (slice_range area at (at + len)) ≡ len
cut_length area at len fits =
    omega (arith, length-take (at + len - at) (drop at area), length-drop at area)

-- the content of the packet after a datagram was written around its text
pub sent_is : (out : Out) (area new : List ℕ) (len : ℕ) → HasAddrs out → 40 + out.len ≤ length area → new ≡ sent_in out area → len ≡ datagram_len out →
    take len new ≡ datagram_bytes (datagram_of out (slice_range area 40 (40 + out.len)))
sent_is out area new len addrs fits e n =
    let text : List ℕ = slice_range area 40 (40 + out.len) in
    let bytes : List ℕ = datagram_bytes (datagram_of out text) in
    let long : len ≡ length bytes = n ∙ sym (datagram_length out text addrs ∙ ap (λ (k : ℕ). 20 + 4 * offset_of out.mss + k)
    (cut_length area 40 out.len fits)) in
    ap (take len) e ∙ ap (λ (k : ℕ). take k (bytes ++ drop (datagram_len out) area)) long ∙ take-append_seam bytes (drop (datagram_len out) area)

pub sent_length : (out : Out) (area new : List ℕ) → HasAddrs out → 40 + out.len ≤ length area → datagram_len out ≤ length area
    → new ≡ sent_in out area → length new ≡ length area
sent_length out area new addrs fits all e =
    let text : List ℕ = slice_range area 40 (40 + out.len) in
    let bytes : List ℕ = datagram_bytes (datagram_of out text) in
    omega (
      arith,
      ap length e,
      length-append bytes (drop (datagram_len out) area),
      datagram_length out text addrs,
      cut_length area 40 out.len fits,
      length-drop (datagram_len out) area,
    )

at_most : (o : Option ℕ) (len : ℕ) → len ≤ 1460 → (IsSome o → len ≡ 0) → 20 + 4 * offset_of o + len ≤ 1500
at_most None len l n = omega (arith, l)
at_most (Some mss) len l n = omega (arith, n refl)

pub fits_area : (out : Out) (area : List ℕ) → length area ≡ 1500 → out.len ≤ 1460 → (IsSome out.mss → out.len ≡ 0) → datagram_len out ≤ length area
fits_area out area size l n = omega (arith, size, at_most out.mss out.len l n)
