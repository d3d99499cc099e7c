-- What is sent is received.
use Rattle.tcp_segment.proofs.Prelude.{◌≡◌, ℕ, ◌+◌, ◌-◌, ◌*◌, ◌/◌, ◌%◌, ◌<◌, ◌≤◌, List, [], ◌∷◌, ◌++◌, length, take, drop, slice_range}
use Rattle.tcp_segment.proofs.Prelude.{refl, sym, ap, ◌∙◌, arith, Ok, Result, Option, Some, None, length-append, common_steps, drop-drop}
use Rattle.tcp_segment.proofs.Prelude.{drop_at, take-length, folded_closes, join_even, total, sum_of_words, length-bytes_of, same_word}
use Rattle.tcp_segment.proofs.Prelude.{same_long, checksum_of, folded, word_sum, bytes_of, passes, not_less, equal, neither}
use Rattle.tcp_segment.proofs.Prelude.{length-head_bytes, reads_back, head_bytes, head_or_fate, payload_of, Tcp, mss_in, value_of}
use Rattle.tcp_segment.proofs.Prelude.{IsSoundDatagram, IsReadBack, ReadsBack, head_of, fields_sent, header_len, segment_in, Datagram}
use Rattle.tcp_segment.proofs.Prelude.{datagram_bytes, pseudo_header, segment_bytes, TcpFate, Segment}

-- a segment with its header's length in words, its checksum, and its options as words
abbrev words : ℕ → List ℕ → ℕ → Datagram → List ℕ
words offset options sum d =
    d.from ∷ d.to ∷ d.segment.seq / 65536 ∷ d.segment.seq % 65536 ∷ d.segment.ack / 65536 ∷ d.segment.ack % 65536
    ∷ (offset * 4096 + d.segment.flags) ∷ d.segment.window ∷ sum ∷ 0 ∷ options

abbrev with_words : ℕ → List ℕ → ℕ → Datagram → List ℕ
with_words offset options sum d = bytes_of (words offset options sum d) ++ d.segment.text

-- ---- its checksum is right

moved : (a b c d e f g h k o t : ℕ)
    → a + (b + (c + (d + (e + (f + (g + (h + (k + (0 + o))))))))) + t ≡ a + (b + (c + (d + (e + (f + (g + (h + (0 + (0 + o))))))))) + t + k
moved a b c d e f g h k o t = omega arith

sum_added : (offset : ℕ) (options : List ℕ) (k : ℕ) (d : Datagram)
    → word_sum (with_words offset options k d) ≡ word_sum (with_words offset options 0 d) + k
sum_added offset options k d =
    sum_of_words (words offset options k d) d.segment.text
    ∙ moved d.from d.to (d.segment.seq / 65536) (d.segment.seq % 65536) (d.segment.ack / 65536) (d.segment.ack % 65536)
    (offset * 4096 + d.segment.flags) d.segment.window k (total options) (word_sum d.segment.text)
    ∙ ap (λ n. n + k) (sym (sum_of_words (words offset options 0 d) d.segment.text))

even_prefix : (source target : List ℕ) (len : ℕ) → length source ≡ 4 → length target ≡ 4 → length (pseudo_header source target len) % 2 ≡ 0
even_prefix source target len s t =
    omega (arith, length-append (source ++ target) (bytes_of (6 ∷ len ∷ [])), length-append source target)

closes : (prefix a b k : ℕ) → a ≡ b + (65535 - folded (prefix + b)) → k ≡ prefix + a → 65535 - folded k ≡ 0
closes prefix a b k e f =
    let whole : k ≡ prefix + b + (65535 - folded (prefix + b)) = omega arith in
    ap (λ n. 65535 - folded n) whole ∙ ap (λ n. 65535 - n) (folded_closes (prefix + b))

sum_right : (offset : ℕ) (options : List ℕ) (len : ℕ) (d : Datagram) → length d.source ≡ 4 → length d.target ≡ 4
    → checksum_of (pseudo_header d.source d.target len
    ++ with_words offset options (checksum_of (pseudo_header d.source d.target len ++ with_words offset options 0 d)) d) ≡ 0
sum_right offset options len d s t =
    let prefix : List ℕ = pseudo_header d.source d.target len in
    let even = even_prefix d.source d.target len s t in
    let before : word_sum (prefix ++ with_words offset options 0 d) ≡ word_sum prefix + word_sum (with_words offset options 0 d) =
    join_even prefix (with_words offset options 0 d) even in
    let k : ℕ = checksum_of (prefix ++ with_words offset options 0 d) in
    let added : word_sum (with_words offset options k d)
    ≡ word_sum (with_words offset options 0 d) + (65535 - folded (word_sum prefix + word_sum (with_words offset options 0 d))) =
    sum_added offset options k d
    ∙ ap (λ n. word_sum (with_words offset options 0 d) + (65535 - folded n)) before in
    closes (word_sum prefix) _ _ _ added (join_even prefix (with_words offset options k d) even)

-- ---- its fields

same_segment : (from from' to to' seq seq' ack ack' flags flags' window window' at at' len len' : ℕ) (mss mss' : Option ℕ) →
    from ≡ from' → to ≡ to' → seq ≡ seq' → ack ≡ ack' → flags ≡ flags' → window ≡ window' → mss ≡ mss' → at ≡ at' → len ≡ len' →
    ◌≡◌ {A = Result Segment TcpFate}
    (Ok (record {
      from = record { 0 = from };
      to = record { 0 = to };
      seq = record { 0 = seq };
      ack = record { 0 = ack };
      flags = flags;
      window = window;
      mss = mss;
      text_at = at;
      text_len = len;
    }))
    (Ok (record {
      from = record { 0 = from' };
      to = record { 0 = to' };
      seq = record { 0 = seq' };
      ack = record { 0 = ack' };
      flags = flags';
      window = window';
      mss = mss';
      text_at = at';
      text_len = len';
    }))
same_segment from from' to to' seq seq' ack ack' flags flags' window window' at at' len len' mss mss' a b c d e f g h i = cc

reported_offset : (offset flags : ℕ) → flags < 64 → (offset * 4096 + flags) / 256 / 16 ≡ offset
reported_offset offset flags h = omega arith

reported_flags : (offset flags : ℕ) → flags < 64 → (offset * 4096 + flags) % 256 % 64 ≡ flags
reported_flags offset flags h = omega arith

-- the segment passes its checks, whatever its options are
received : (offset : ℕ) (options : List ℕ) (d : Datagram) (mss : Option ℕ) → length d.source ≡ 4 → length d.target ≡ 4
    → d.segment.flags < 64 → 5 ≤ offset → 4 * offset ≡ 20 + 2 * length options
    → mss_in (slice_range (with_words offset options (checksum_of (pseudo_header d.source d.target (length (with_words offset options 0 d))
    ++ with_words offset options 0 d)) d) 20 (4 * offset)) ≡ mss
    → segment_in d.source d.target
    (with_words offset options (checksum_of (pseudo_header d.source d.target (length (with_words offset options 0 d)) ++ with_words offset options 0 d)) d)
    ≡ Ok (record (fields_sent d) { mss = mss; text_at = 20 + 4 * offset })
unfolding segment_in
received offset options d mss s t small least size reported =
    let k : ℕ = checksum_of (pseudo_header d.source d.target (length (with_words offset options 0 d)) ++ with_words offset options 0 d) in
    let bytes : List ℕ = with_words offset options k d in
    let len : length bytes ≡ 20 + 2 * length options + length d.segment.text =
    omega (arith, length-append (bytes_of options) d.segment.text, length-bytes_of options) in
    let len0 : length bytes ≡ length (with_words offset options 0 d) =
    omega (arith, length-append (bytes_of options) d.segment.text, length-bytes_of options) in
    let head : header_len bytes ≡ 4 * offset = ap (λ n. 4 * n) (reported_offset offset d.segment.flags small) in
    let zero_sum : checksum_of (pseudo_header d.source d.target (length bytes) ++ bytes) ≡ 0 =
    ap (λ n. checksum_of (pseudo_header d.source d.target n ++ bytes)) len0 ∙ sum_right offset options (length (with_words offset options 0 d)) d s t in
    passes _ _ _ _ (not_less (length bytes) 20 (omega arith))
    (passes _ _ _ _ (neither _ _ (not_less (header_len bytes) 20 (omega arith)) (not_less (length bytes) (header_len bytes) (omega arith)))
    (passes _ _ _ _ (equal (checksum_of (pseudo_header d.source d.target (length bytes) ++ bytes)) 0 zero_sum)
    (same_segment _ _ _ _ _ _ _ _ _ _ _ _ _ _ _ _ _ _ (same_word d.from) (same_word d.to) (same_long d.segment.seq) (same_long d.segment.ack)
    (reported_flags offset d.segment.flags small) (same_word d.segment.window) (ap (λ n. mss_in (slice_range bytes 20 n)) head ∙ reported)
    (ap (λ n. 20 + n) head) (omega arith))))

-- ---- the whole datagram

after_header : (d : Datagram) → length d.source ≡ 4 → length d.target ≡ 4 → drop 20 (datagram_bytes d) ≡ segment_bytes d
unfolding datagram_bytes
after_header d s t =
    drop_at (head_bytes (20 + length (segment_bytes d)) d.id Tcp d.source d.target) (segment_bytes d) 20
    (length-head_bytes (20 + length (segment_bytes d)) d.id Tcp d.source d.target s t)

payload_is : (d : Datagram) → length d.source ≡ 4 → length d.target ≡ 4 → payload_of (head_of d) (datagram_bytes d) ≡ segment_bytes d
payload_is d s t =
    let len : ℕ = length (segment_bytes d) in
    let n : 20 + len - 20 ≡ len = omega arith in
    ap (λ l. take (20 + len - 20) l) (after_header d s t) ∙ ap (λ m. take m (segment_bytes d)) n ∙ take-length (segment_bytes d)

text_is : (d : Datagram) (at : ℕ) → length d.source ≡ 4 → length d.target ≡ 4 → drop at (segment_bytes d) ≡ d.segment.text
    → slice_range (datagram_bytes d) (20 + at) (20 + at + length d.segment.text) ≡ d.segment.text
text_is d at s t e =
    let len : ℕ = length d.segment.text in
    let n : 20 + at + len - (20 + at) ≡ len = omega arith in
    ap (λ m. take m (drop (20 + at) (datagram_bytes d))) n
    ∙ ap (λ l. take len l) (sym (drop-drop at 20 (datagram_bytes d)) ∙ ap (λ l. drop at l) (after_header d s t) ∙ e)
    ∙ take-length d.segment.text

head_back : (d : Datagram) → IsSoundDatagram d → head_or_fate (datagram_bytes d) d.target ≡ Ok (head_of d)
unfolding datagram_bytes
head_back d sound =
    reads_back (20 + length (segment_bytes d)) d.id Tcp d.source d.target (segment_bytes d) sound.source sound.target (omega arith) (omega arith)

some_value : (mss : ℕ) → 0 < mss → value_of mss ≡ Some mss
some_value mss h = grind (arith, common_steps)

abbrev with_mss : Datagram → Option ℕ → Datagram
with_mss d mss = record d { segment = record d.segment { mss = mss } }

back : (d : Datagram) (mss : Option ℕ) → IsSoundDatagram (with_mss d mss) → IsReadBack (with_mss d mss)
back d None sound =
    let sent : Datagram = with_mss d None in
    record {
      head = head_back sent sound;
      fields =
          ap (λ l. segment_in d.source d.target l) (payload_is sent sound.source sound.target)
          ∙ received 5 [] sent None sound.source sound.target sound.flags (omega arith) refl refl;
      segment = ap (λ (l : List ℕ). record sent.segment { text = l }) (text_is sent 20 sound.source sound.target refl);
    }
back d (Some mss) sound =
    let sent : Datagram = with_mss d (Some mss) in
    record {
      head = head_back sent sound;
      fields =
          ap (λ l. segment_in d.source d.target l) (payload_is sent sound.source sound.target)
          ∙ received 6 (516 ∷ mss ∷ []) sent (Some mss) sound.source sound.target sound.flags (omega arith) refl
          (ap value_of (same_word mss) ∙ some_value mss sound.mss);
      segment = ap (λ (l : List ℕ). record sent.segment { text = l }) (text_is sent 24 sound.source sound.target refl);
    }

pub segment_back : ReadsBack
segment_back d sound = back d d.segment.mss sound
