-- A datagram that is written around its text.
use Rattle.tcp_segment.proofs.Prelude.{◌≡◌, ℕ, ◌+◌, ◌-◌, ◌/◌, ◌%◌, ◌<◌, ◌≤◌, List, [], ◌∷◌, ◌++◌, length, take, drop, slice_range}
use Rattle.tcp_segment.proofs.Prelude.{slice_index_or, Option, Some, None, refl, sym, ap, ◌∙◌, subst, arith, append_assoc, length-append}
use Rattle.tcp_segment.proofs.Prelude.{length-take, length-drop, take-append-add, drop-drop, drop_all, drop_at, take-append-drop}
use Rattle.tcp_segment.proofs.Prelude.{length-take-le, same_four, checksum_of, word_bytes, written, four, head_bytes, Tcp, datagram_bytes}
use Rattle.tcp_segment.proofs.Prelude.{pseudo_header, segment_bytes, segment_with, around, datagram_of, fixed_bytes, header_around}
use Rattle.tcp_segment.proofs.Prelude.{sum_around, Out}
use borrow.Rule.Slice.PartMut.{put_mid}

-- the pseudo header, byte by byte
pub pseudo_is : (source target : List ℕ) (high low len : ℕ) → length source ≡ 4 → length target ≡ 4 → high ≡ len / 256 → low ≡ len % 256
    → ◌≡◌ {A = List ℕ} (slice_index_or source 0 0 ∷ slice_index_or source 1 0 ∷ slice_index_or source 2 0 ∷ slice_index_or source 3 0
    ∷ slice_index_or target 0 0 ∷ slice_index_or target 1 0 ∷ slice_index_or target 2 0 ∷ slice_index_or target 3 0 ∷ 0 ∷ 6 ∷ high ∷ low ∷ [])
    (pseudo_header source target len)
pseudo_is source target high low len s t h l =
    ap (λ (n : ℕ). (slice_index_or source 0 0 ∷ slice_index_or source 1 0 ∷ slice_index_or source 2 0 ∷ slice_index_or source 3 0 ∷ [])
    ++ (slice_index_or target 0 0 ∷ slice_index_or target 1 0 ∷ slice_index_or target 2 0 ∷ slice_index_or target 3 0 ∷ []) ++ (0 ∷ 6 ∷ n ∷ low ∷ [])) h
    ∙ ap (λ (n : ℕ). (slice_index_or source 0 0 ∷ slice_index_or source 1 0 ∷ slice_index_or source 2 0 ∷ slice_index_or source 3 0 ∷ [])
    ++ (slice_index_or target 0 0 ∷ slice_index_or target 1 0 ∷ slice_index_or target 2 0 ∷ slice_index_or target 3 0 ∷ []) ++ (0 ∷ 6 ∷ len / 256 ∷ n ∷ [])) l
    ∙ ap (λ (x : List ℕ). x ++ (slice_index_or target 0 0 ∷ slice_index_or target 1 0 ∷ slice_index_or target 2 0 ∷ slice_index_or target 3 0 ∷ [])
    ++ (0 ∷ 6 ∷ len / 256 ∷ len % 256 ∷ [])) (sym (four source s))
    ∙ ap (λ (x : List ℕ). source ++ x ++ (0 ∷ 6 ∷ len / 256 ∷ len % 256 ∷ [])) (sym (four target t))

-- the option as one number of 32 bits
pub option_is : (n mss : ℕ) → n ≡ mss → mss < 65536
    → ◌≡◌ {A = List ℕ} ((33816576 + n) / 65536 / 256 ∷ (33816576 + n) / 65536 % 256 ∷ (33816576 + n) % 65536 / 256 ∷ (33816576 + n) % 65536 % 256 ∷ [])
    (2 ∷ 4 ∷ mss / 256 ∷ mss % 256 ∷ [])
option_is n mss e small = same_four _ _ _ _ _ _ _ _ [] (omega arith) (omega arith) (omega arith) (omega arith)

after_part : (area part : List ℕ) → 40 ≤ length area → drop 20 (put_mid 20 20 area part) ≡ part ++ drop 40 area
after_part area part long =
    drop_at (take 20 area) (part ++ drop 20 (drop 20 area)) 20 (length-take-le 20 area (omega arith))
    ∙ ap (λ l. part ++ l) (drop-drop 20 20 area)

cut : (area : List ℕ) (total : ℕ) → 40 ≤ total → slice_range area 40 total ++ drop total area ≡ drop 40 area
cut area total least =
    ap (λ l. slice_range area 40 total ++ l) (ap (λ n. drop n area) (omega arith) ∙ sym (drop-drop (total - 40) 40 area))
    ∙ take-append-drop (total - 40) (drop 40 area)

length-part : (area : List ℕ) (total : ℕ) → 40 ≤ total → total ≤ length area → 40 + length (slice_range area 40 total) ≡ total
length-part area total least most = omega (arith, length-take (total - 40) (drop 40 area), length-drop 40 area)

-- The header stands at 20 in the area, and the checksum is written into it.
sum_put : (fields rest : List ℕ) (sum : ℕ) (out : Out) → fields ≡ fixed_bytes 0 out
    → take 16 (fields ++ rest) ++ word_bytes sum ++ drop 18 (fields ++ rest) ≡ fixed_bytes sum out ++ rest
unfolding fixed_bytes
sum_put fields rest sum out f = ap (λ l. take 16 (l ++ rest) ++ word_bytes sum ++ drop 18 (l ++ rest)) f

-- what is written at 36 of an area is written at 16 of what is after the first 20 bytes
past_head : (head tail word : List ℕ) → length head ≡ 20
    → drop 20 (written (head ++ tail) 36 word) ≡ take 16 tail ++ word ++ drop (16 + length word) tail
past_head head tail word h =
    let cut : take 36 (head ++ tail) ≡ head ++ take 16 tail = ap (λ n. take n (head ++ tail))
    (let z : 36 ≡ length head + 16 = omega (arith, h) in z) ∙ take-append-add head tail 16 in
    let left : drop (36 + length word) (head ++ tail) ≡ drop (16 + length word) tail =
    ap (λ n. drop n (head ++ tail)) (let z : 36 + length word ≡ 20 + (16 + length word) = omega arith in z)
    ∙ sym (drop-drop (16 + length word) 20 (head ++ tail))
    ∙ ap (λ l. drop (16 + length word) l) (drop_at head tail 20 h) in
    ap (λ l. drop 20 (l ++ word ++ drop (36 + length word) (head ++ tail))) cut
    ∙ ap (λ l. drop 20 ((head ++ take 16 tail) ++ word ++ l)) left
    ∙ ap (λ l. drop 20 (l ++ drop (16 + length word) tail)) (append_assoc head (take 16 tail) word)
    ∙ ap (λ l. drop 20 l) (append_assoc head (take 16 tail ++ word) (drop (16 + length word) tail))
    ∙ drop_at head (take 16 tail ++ word ++ drop (16 + length word) tail) 20 h

-- the segment of the area, whose header is these fields
segment_is : (area fields : List ℕ) (total : ℕ) → 40 ≤ total → total ≤ length area → length fields ≡ 20
    → slice_range (put_mid 20 20 area fields) 20 total ≡ fields ++ slice_range area 40 total
segment_is area fields total least most f =
    ap (λ l. take (total - 20) l) (after_part area fields (omega arith))
    ∙ ap (λ n. take n (fields ++ drop 40 area)) (let z : total - 20 ≡ length fields + (total - 40) = omega (arith, f) in z)
    ∙ take-append-add fields (drop 40 area) (total - 40)

fields_long : (out : Out) → length (fixed_bytes 0 out) ≡ 20
unfolding fixed_bytes
fields_long out = refl

pub headers_put : (out : Out) (area fields summed new : List ℕ) (total sum : ℕ) → 40 ≤ total → total ≤ length area
    → fields ≡ fixed_bytes 0 out
    → sum ≡ checksum_of (pseudo_header out.source.0 out.target.0 (length (slice_range (put_mid 20 20 area fields) 20 total)) ++ slice_range
    (put_mid 20 20 area fields) 20 total)
    → summed ≡ written (put_mid 20 20 area fields) 36 (word_bytes sum)
    → new ≡ head_bytes total out.id Tcp out.source.0 out.target.0 ++ drop 20 summed
    → new ≡ around out (slice_range area 40 total) ++ drop total area
unfolding around header_around sum_around
headers_put out area fields summed new total sum least most f s w e =
    let rest : List ℕ = slice_range area 40 total in
    let prefix : List ℕ = head_bytes total out.id Tcp out.source.0 out.target.0 in
    let long : length fields ≡ 20 = ap (λ l. length l) f ∙ fields_long out in
    let segment : slice_range (put_mid 20 20 area fields) 20 total ≡ fixed_bytes 0 out ++ rest =
    segment_is area fields total least most long ∙ ap (λ l. l ++ rest) f in
    let sized : length (fixed_bytes 0 out ++ rest) ≡ 20 + length rest = length-append (fixed_bytes 0 out) rest ∙ ap (λ n. n + length rest) (fields_long out) in
    let sum_is : sum ≡ sum_around out rest =
    s ∙ ap (λ l. checksum_of (pseudo_header out.source.0 out.target.0 (length l) ++ l)) segment
    ∙ ap (λ n. checksum_of (pseudo_header out.source.0 out.target.0 n ++ (fixed_bytes 0 out ++ rest))) sized in
    let header : drop 20 summed ≡ fixed_bytes sum out ++ drop 40 area =
    ap (λ l. drop 20 l) w
    ∙ past_head (take 20 area) (fields ++ drop 20 (drop 20 area)) (word_bytes sum) (length-take-le 20 area (omega arith))
    ∙ ap (λ l. take 16 (fields ++ l) ++ word_bytes sum ++ drop 18 (fields ++ l)) (drop-drop 20 20 area)
    ∙ sum_put fields (drop 40 area) sum out f in
    e
    ∙ ap (λ l. prefix ++ l) (header ∙ ap (λ n. fixed_bytes n out ++ drop 40 area) sum_is)
    ∙ ap (λ l. prefix ++ (header_around out rest ++ l)) (sym (cut area total least))
    ∙ ap (λ l. prefix ++ l) (sym (append_assoc (header_around out rest) rest (drop total area)))
    ∙ sym (append_assoc prefix (header_around out rest ++ rest) (drop total area))
    ∙ ap (λ n. head_bytes n out.id Tcp out.source.0 out.target.0 ++ (header_around out rest ++ rest) ++ drop total area)
    (sym (length-part area total least most))

-- the fields over all 20 bytes of the header
pub fields_over : (old : List ℕ) → length old ≡ 20 → drop 4 (drop 2 (drop 2 (drop 4 (drop 4 (drop 2 (drop 2 old)))))) ≡ []
fields_over old h =
    drop_all 4 (drop 2 (drop 2 (drop 4 (drop 4 (drop 2 (drop 2 old))))))
    (omega (
      arith,
      h,
      length-drop 2 old,
      length-drop 2 (drop 2 old),
      length-drop 4 (drop 2 (drop 2 old)),
      length-drop 4 (drop 4 (drop 2 (drop 2 old))),
      length-drop 2 (drop 4 (drop 4 (drop 2 (drop 2 old)))),
      length-drop 2 (drop 2 (drop 4 (drop 4 (drop 2 (drop 2 old))))),
    ))

-- without the option, what stands behind the header is the text
without_option : (out : Out) (text : List ℕ)
    → around (record out { mss = None }) text ≡ datagram_bytes (datagram_of (record out { mss = None }) text)
unfolding around header_around sum_around fixed_bytes datagram_bytes
without_option out text =
    let d = datagram_of (record out { mss = None }) text in
    let n : 20 + length text ≡ length (segment_with 0 d) = omega arith in
    let m : 40 + length text ≡ 20 + length (segment_bytes d) = omega arith in
    ap (λ (l : ℕ). head_bytes l out.id Tcp out.source.0 out.target.0 ++ segment_with (sum_around (record out { mss = None }) text) d) m
    ∙ ap (λ (l : ℕ). head_bytes (20 + length (segment_bytes d)) out.id Tcp out.source.0 out.target.0 ++ segment_with
    (checksum_of (pseudo_header out.source.0 out.target.0 l ++ segment_with 0 d)) d) n

with_option : (out : Out) (mss : ℕ)
    → around (record out { mss = Some mss }) (2 ∷ 4 ∷ mss / 256 ∷ mss % 256 ∷ []) ≡ datagram_bytes (datagram_of (record out { mss = Some mss }) [])
unfolding around header_around sum_around fixed_bytes datagram_bytes
with_option out mss = refl

pub no_option : (out : Out) (text : List ℕ) → out.mss ≡ None → around out text ≡ datagram_bytes (datagram_of out text)
no_option out text e =
    let P : Option ℕ → Type 0 = λ m. around (record out { mss = m }) text ≡ datagram_bytes (datagram_of (record out { mss = m }) text) in
    subst P (sym e) (without_option out text)

pub one_option : (out : Out) (mss : ℕ) → out.mss ≡ Some mss
    → around out (2 ∷ 4 ∷ mss / 256 ∷ mss % 256 ∷ []) ≡ datagram_bytes (datagram_of out [])
one_option out mss e =
    let P : Option ℕ → Type 0 = λ m. around (record out { mss = m }) (2 ∷ 4 ∷ mss / 256 ∷ mss % 256 ∷ []) ≡ datagram_bytes
    (datagram_of (record out { mss = m }) []) in
    subst P (sym e) (with_option out mss)

pub option_put : (out : Out) (area with_mss new : List ℕ) (mss : ℕ) → 44 ≤ length area → out.mss ≡ Some mss → out.len ≡ 0
    → with_mss ≡ take 40 area ++ (2 ∷ 4 ∷ mss / 256 ∷ mss % 256 ∷ []) ++ drop 44 area
    → new ≡ around out (slice_range with_mss 40 44) ++ drop 44 with_mss
    → new ≡ datagram_bytes (datagram_of out (slice_range area 40 (40 + out.len))) ++ drop 44 area
option_put out area with_mss new mss long some empty w e =
    let option : List ℕ = 2 ∷ 4 ∷ mss / 256 ∷ mss % 256 ∷ [] in
    let rest : List ℕ = drop 44 area in
    let prefix : length (take 40 area) ≡ 40 = length-take-le 40 area (omega arith) in
    let both : length (take 40 area ++ option) ≡ 44 = omega (arith, length-append (take 40 area) option) in
    let part : slice_range with_mss 40 44 ≡ option =
    ap (λ l. take 4 (drop 40 l)) (w ∙ append_assoc (take 40 area) option rest)
    ∙ ap (λ l. take 4 l) (drop_at (take 40 area) (option ++ rest) 40 prefix) in
    let behind : drop 44 with_mss ≡ rest = ap (λ l. drop 44 l) w ∙ drop_at (take 40 area ++ option) rest 44 both in
    e ∙ ap (λ l. around out l ++ drop 44 with_mss) part ∙ ap (λ l. around out option ++ l) behind
    ∙ ap (λ l. l ++ rest) (one_option out mss some)
    ∙ ap (λ (n : ℕ). datagram_bytes (datagram_of out (slice_range area 40 (40 + n))) ++ rest) (sym empty)
