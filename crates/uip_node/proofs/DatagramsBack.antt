-- A datagram of a sound segment is read back as what was meant.
use Rattle.uip_node.proofs.Prelude.{All, ◌≡◌, ◌⊎◌, ℕ, ◌+◌, ◌*◌, ◌/◌, ◌%◌, ◌<◌, ◌≤◌, inl, inr, List, [], ◌∷◌, ◌++◌, length, ap, ◌∙◌, arith}
use Rattle.uip_node.proofs.Prelude.{Option, Some, None, IfSome, length-append, All-append, checksum_of, bytes_of, length-bytes_of}
use Rattle.uip_node.proofs.Prelude.{head_bytes, head_with, number_of, Proto, Icmp, length-head_bytes, IsReadBack, PlainSegment, Datagram}
use Rattle.uip_node.proofs.Prelude.{datagram_bytes, segment_bytes, segment_sum, fixed_words, option_words, offset_of, segment_back, IsByte}
use Rattle.uip_ipv4.specs.declared.proto.Proto.TheVariants.{Tcp}
use Rattle.uip_node.proofs.Fits.{all_nil, all_cons}
use Rattle.uip_node.proofs.SoundSegments.{IsSoundSegment}

abbrev pub IsShort : ℕ → Type 0
IsShort n = n < 65536

-- each number of a list, one after the other
abbrev pub Each : (ℕ → Type 0) → List ℕ → Type 0
Each P [] = Unit {0}
Each P (x ∷ xs) = P x × Each P xs

pub each_all : (P : ℕ → Type 0) (xs : List ℕ) → Each P xs → All P xs
each_all P [] h = all_nil P
each_all P (x ∷ xs) h = all_cons P x xs h.0 (each_all P xs h.1)

each_joins : (P : ℕ → Type 0) (xs ys : List ℕ) → Each P xs → Each P ys → Each P (xs ++ ys)
each_joins P [] ys h g = g
each_joins P (x ∷ xs) ys h g = (h.0, each_joins P xs ys h.1 g)

words_low : (words : List ℕ) → Each IsShort words → All IsByte (bytes_of words)
words_low [] h = all_nil IsByte
words_low (w ∷ words) h = all_cons IsByte (w / 256) (w % 256 ∷ bytes_of words) (omega (arith, h.0))
    (all_cons IsByte (w % 256) (bytes_of words) (omega arith) (words_low words h.1))

number_low : (proto : Proto) → number_of proto ≤ 6
number_low Icmp = omega arith
number_low Tcp = omega arith

head_low : (sum total id : ℕ) (proto : Proto) (source target : List ℕ) → sum < 65536 → total < 65536 → id < 65536 → All IsByte source
    → All IsByte target → All IsByte (head_with sum total id proto source target)
head_low sum total id proto source target s t i a b =
    let p : 16384 + number_of proto < 65536 = (let n = number_low proto in omega (arith, n)) in
    let words : List ℕ = 17664 ∷ total ∷ id ∷ 0 ∷ (16384 + number_of proto) ∷ sum ∷ [] in
    let low : Each IsShort words = (omega arith, (t, (i, (omega arith, (p, (s, tt)))))) in
    All-append IsByte (bytes_of words ++ source) target (All-append IsByte (bytes_of words) source (words_low words low) a) b

pub head_bytes_low : (total id : ℕ) (proto : Proto) (source target : List ℕ) → total < 65536 → id < 65536 → All IsByte source
    → All IsByte target → All IsByte (head_bytes total id proto source target)
unfolding head_bytes
head_bytes_low total id proto source target t i a b = head_low (checksum_of (head_with 0 total id proto source target)) total id proto
    source target (let c : checksum_of (head_with 0 total id proto source target) < 65536 = omega arith in c) t i a b

options_low : (mss : Option ℕ) → IfSome mss (λ n. (0 < n) × (n < 65536)) → Each IsShort (option_words mss)
options_low None h = tt
options_low (Some mss) h = (omega arith, (h.1, tt))

offset_low : (mss : Option ℕ) → offset_of mss ≤ 6
offset_low None = omega arith
offset_low (Some mss) = omega arith

words_of_low : (sum from to : ℕ) (s : PlainSegment) → sum < 65536 → from < 65536 → to < 65536 → IsSoundSegment s → Each IsShort (fixed_words sum from to s)
words_of_low sum from to s u f t h =
    let o : offset_of s.mss ≤ 6 = offset_low s.mss in
    let seq_high : s.seq / 65536 < 65536 = omega (arith, h.seq) in
    let seq_low : s.seq % 65536 < 65536 = omega arith in
    let ack_high : s.ack / 65536 < 65536 = omega (arith, h.ack) in
    let ack_low : s.ack % 65536 < 65536 = omega arith in
    let flags : offset_of s.mss * 4096 + s.flags < 65536 = omega (arith, o, h.flags) in
    (f, (t, (seq_high, (seq_low, (ack_high, (ack_low, (flags, (h.window, (u, (omega arith, tt))))))))))

segment_low : (d : Datagram) → d.from < 65536 → d.to < 65536 → IsSoundSegment d.segment → All IsByte (segment_bytes d)
segment_low d f t h =
    let prefix : List ℕ = fixed_words (segment_sum d) d.from d.to d.segment in
    let words : List ℕ = prefix ++ option_words d.segment.mss in
    let sum : segment_sum d < 65536 = omega arith in
    All-append IsByte (bytes_of words) d.segment.text
    (words_low words (each_joins IsShort prefix (option_words d.segment.mss) (words_of_low (segment_sum d) d.from d.to d.segment sum f t h)
    (options_low d.segment.mss h.mss))) h.text

options_len : (mss : Option ℕ) → length (option_words mss) ≤ 2
options_len None = omega arith
options_len (Some mss) = omega arith

segment_len : (d : Datagram) → length (segment_bytes d) ≡ 20 + 2 * length (option_words d.segment.mss) + length d.segment.text
segment_len d =
    let words : List ℕ = fixed_words (segment_sum d) d.from d.to d.segment ++ option_words d.segment.mss in
    let a : length (segment_bytes d) ≡ length (bytes_of words) + length d.segment.text = length-append (bytes_of words) d.segment.text in
    let b : length (bytes_of words) ≡ 2 * length words = length-bytes_of words in
    let c : length words ≡ 10 + length (option_words d.segment.mss) = length-append (fixed_words (segment_sum d) d.from d.to d.segment)
    (option_words d.segment.mss) in
    omega (arith, a, b, c)

-- a segment without a text, or with at most 1460 bytes of it and without the option
pub small_size : (d : Datagram) → length d.segment.text ≤ 1460 → (d.segment.mss ≡ None) ⊎ (d.segment.text ≡ []) → length (segment_bytes d) ≤ 1480
small_size d short alone = elim alone [
  | inl none ↦ (let e : length (segment_bytes d) ≡ 20 + length d.segment.text = segment_len d
      ∙ ap (λ (x : Option ℕ). 20 + 2 * length (option_words x) + length d.segment.text) none in omega (arith, e, short))
  | inr nothing ↦ (let e : length (segment_bytes d) ≡ 20 + 2 * length (option_words d.segment.mss) + 0 = segment_len d
      ∙ ap (λ (x : List ℕ). 20 + 2 * length (option_words d.segment.mss) + length x) nothing in
      let o : length (option_words d.segment.mss) ≤ 2 = options_len d.segment.mss in omega (arith, e, o))
]

size_low : (d : Datagram) → IsSoundSegment d.segment → 20 + length (segment_bytes d) ≤ 1500
size_low d h = omega (arith, small_size d h.short h.alone)

-- addresses, ports and an identification that fit their fields
pub record IsPlace (d : Datagram) : Type 0 where
  pub source : length d.source ≡ 4
  pub target : length d.target ≡ 4
  pub source_bytes : All IsByte d.source
  pub target_bytes : All IsByte d.target
  pub from : d.from < 65536
  pub to : d.to < 65536
  pub id : d.id < 65536

pub bytes_low : (d : Datagram) → IsPlace d → IsSoundSegment d.segment → All IsByte (datagram_bytes d)
unfolding datagram_bytes
bytes_low d p h =
    All-append IsByte (head_bytes (20 + length (segment_bytes d)) d.id Tcp d.source d.target) (segment_bytes d)
    (head_bytes_low (20 + length (segment_bytes d)) d.id Tcp d.source d.target (let z = size_low d h in omega (arith, z)) p.id
    p.source_bytes p.target_bytes) (segment_low d p.from p.to h)

pub whole_length : (d : Datagram) → IsPlace d → length (datagram_bytes d) ≡ 20 + length (segment_bytes d)
unfolding datagram_bytes
whole_length d p =
    length-append (head_bytes (20 + length (segment_bytes d)) d.id Tcp d.source d.target) (segment_bytes d)
    ∙ ap (λ n. n + length (segment_bytes d)) (length-head_bytes (20 + length (segment_bytes d)) d.id Tcp d.source d.target p.source p.target)

-- it is no longer than the largest datagram
pub datagram_short : (d : Datagram) → IsPlace d → IsSoundSegment d.segment → length (datagram_bytes d) ≤ 1500
datagram_short d p h = let n = whole_length d p in let s = size_low d h in omega (arith, n, s)

above_zero : (o : Option ℕ) → IfSome o (λ n. (0 < n) × (n < 65536)) → IfSome o (λ n. 0 < n)
above_zero None h = h
above_zero (Some n) h = h.0

pub datagram_back : (d : Datagram) → IsPlace d → IsSoundSegment d.segment → IsReadBack d
datagram_back d p h = segment_back d record { source = p.source; target = p.target; flags = h.flags; mss = above_zero d.segment.mss h.mss }
