-- A capture file that continues: with further bytes, and with a further record.
use Rattle.trace.proofs.Prelude.{◌≡◌, ℕ, zero, suc, ◌+◌, ◌<◌, ◌≤◌, List, [], ◌∷◌, ◌++◌, length, take, drop, refl, sym, ap, ◌∙◌, append-nil}
use Rattle.trace.proofs.Prelude.{append_assoc, arith, length-drop, inl, inr, get_or_append_left, length-take-le, take-append-drop}
use Rattle.trace.proofs.Prelude.{take-append-le, flat_map-append, cases_lt, take-length, AllByRecursion, flat_map, LARGEST_DATAGRAM}
use Rattle.trace.proofs.Prelude.{BeginsWith, Captured, IsCaptured, IsReadAs, Reading, captured_in, captured_bytes, length_in, line_text}
use Rattle.trace.proofs.Prelude.{lines_of, BadLength, InRecord, Whole, ByteOrder, Big, Little}

-- the line of a record
abbrev pub captured_line : Captured → List ℕ
captured_line captured = line_text captured.body

-- the bytes before others
pub prefix_of : {X : Type 0} (n : ℕ) (xs ys : List X) → length xs ≡ n → take n (xs ++ ys) ≡ xs
prefix_of n xs ys size =
    let within : n ≤ length xs = omega (arith, size) in
    take-append-le n xs ys within ∙ ap (λ k. take k xs) (sym size) ∙ take-length xs

-- a length is in the first sixteen bytes
pub length_in-append : (order : ByteOrder) (xs ys : List ℕ) → 16 ≤ length xs → length_in order (xs ++ ys) ≡ length_in order xs
length_in-append order xs ys h =
    let a = get_or_append_left xs ys 0 8 (omega arith) in
    let b = get_or_append_left xs ys 0 9 (omega arith) in
    let c = get_or_append_left xs ys 0 10 (omega arith) in
    let d = get_or_append_left xs ys 0 11 (omega arith) in
    elim order as (λ o. length_in o (xs ++ ys) ≡ length_in o xs) [ Big ↦ rw (a, b, c, d) refl | Little ↦ rw (a, b, c, d) refl ]

pub all_more : {X : Type 0} (P : X → Type 0) (xs : List X) (x : X) → AllByRecursion P xs → P x → AllByRecursion P (xs ++ x ∷ [])
all_more P [] x all p = (p, tt)
all_more P (y ∷ xs) x all p = (all.0, all_more P xs x all.1 p)

-- further bytes
pub more_rest : (order : ByteOrder) (records : List Captured) (rest bytes more : List ℕ) → BeginsWith order records rest bytes
    → BeginsWith order records (rest ++ more) (bytes ++ more)
more_rest order records rest bytes more b = record {
  header = b.header;
  size = b.size;
  good = b.good;
  sound = b.sound;
  spelled = ap (λ l. l ++ more) b.spelled ∙ append_assoc (b.header ++ flat_map captured_bytes records) rest more;
}

-- a further record
pub one_more : (order : ByteOrder) (records : List Captured) (rest rest' bytes : List ℕ) (captured : Captured)
    → BeginsWith order records rest bytes → IsCaptured order captured
    → rest ≡ captured_bytes captured ++ rest' → BeginsWith order (records ++ captured ∷ []) rest' bytes
one_more order records rest rest' bytes captured b is e =
    let all = flat_map captured_bytes records in
    let one : flat_map captured_bytes (records ++ captured ∷ []) ≡ all ++ captured_bytes captured =
    flat_map-append captured_bytes records (captured ∷ []) ∙ ap (λ l. all ++ l) (append-nil (captured_bytes captured)) in
    record {
      header = b.header;
      size = b.size;
      good = b.good;
      sound = all_more (IsCaptured order) records captured b.sound is;
      spelled = b.spelled ∙ ap (λ l. (b.header ++ all) ++ l) e
          ∙ sym (append_assoc (b.header ++ all) (captured_bytes captured) rest')
          ∙ ap (λ l. l ++ rest') (append_assoc b.header all (captured_bytes captured) ∙ ap (λ l. b.header ++ l) (sym one));
    }

pub lines-more : (records : List Captured) (captured : Captured) → lines_of (records ++ captured ∷ []) ≡ lines_of records ++ captured_line captured
lines-more records captured = flat_map-append captured_line records (captured ∷ []) ∙ ap (λ l. lines_of records ++ l) (append-nil (captured_line captured))

-- the record that these bytes begin with
abbrev pub first_captured : ℕ → List ℕ → Captured
first_captured size rest = record { head = take 16 rest; body = take size (drop 16 rest) }

pub first_is : (order : ByteOrder) (rest : List ℕ) → 16 + length_in order rest ≤ length rest → length_in order rest ≤ LARGEST_DATAGRAM
    → IsCaptured order (first_captured (length_in order rest) rest)
first_is order rest whole fits =
    let size = length_in order rest in
    let head : length (take 16 rest) ≡ 16 = length-take-le 16 rest (omega arith) in
    let body : length (take size (drop 16 rest)) ≡ size = length-take-le size (drop 16 rest) (omega (arith, length-drop 16 rest)) in
    let same : length_in order (take 16 rest) ≡ size =
    sym (length_in-append order (take 16 rest) (drop 16 rest) (omega (arith, head))) ∙ ap (λ l. length_in order l) (take-append-drop 16 rest) in
    record { head = head; body = body ∙ sym same; fits = omega (arith, body) }

pub first_spelled : (size : ℕ) (rest : List ℕ) → rest ≡ captured_bytes (first_captured size rest) ++ drop size (drop 16 rest)
first_spelled size rest =
    sym (take-append-drop 16 rest) ∙ ap (λ l. take 16 rest ++ l) (sym (take-append-drop size (drop 16 rest)))
    ∙ sym (append_assoc (take 16 rest) (take size (drop 16 rest)) (drop size (drop 16 rest)))

-- bytes have this reading, and these records are first
pub record ReadsOn (records : List Captured) (bytes : List ℕ) : Type 0 where
  pub reading : Reading
  pub read : IsReadAs bytes reading
  pub more : List Captured
  pub first : captured_in reading ≡ records ++ more

-- all bytes after records have some reading
pub reads_on : (fuel : ℕ) (order : ByteOrder) (records : List Captured) (rest bytes : List ℕ) → length rest < fuel
    → BeginsWith order records rest bytes → ReadsOn records bytes
reads_on zero order records rest bytes h b = absurd (omega arith)
reads_on (suc fuel) order records [] bytes h b =
    record { reading = Whole records; read = (order, b); more = []; first = sym (append-nil records) }
reads_on (suc fuel) order records (r ∷ rest) bytes h b =
    let all = r ∷ rest in
    let size = length_in order all in
    elim (cases_lt (length all) 16) as (λ _. ReadsOn records bytes) [
      | inl short ↦ record {
        reading = InRecord records;
        read = (order, all, b, omega arith, record { fits = λ k. absurd (omega arith); short = λ k. absurd (omega arith) });
        more = [];
        first = sym (append-nil records);
      }
      | inr head ↦ elim (cases_lt LARGEST_DATAGRAM size) as (λ _. ReadsOn records bytes) [
        | inl long ↦ record {
          reading = BadLength records;
          read = (order, all, b, record { head = head; long = long });
          more = [];
          first = sym (append-nil records);
        }
        | inr fits ↦ elim (cases_lt (length all) (16 + size)) as (λ _. ReadsOn records bytes) [
          | inl short ↦ record {
            reading = InRecord records;
            read = (order, all, b, omega arith, record { fits = λ k. fits; short = λ k. short });
            more = [];
            first = sym (append-nil records);
          }
          | inr whole ↦
              let captured = first_captured size all in
              let rest' = drop size (drop 16 all) in
              let less : length rest' < fuel = omega (arith, length-drop 16 all, length-drop size (drop 16 all)) in
              let on = reads_on fuel order (records ++ captured ∷ []) rest' bytes less
              (one_more order records all rest' bytes captured b (first_is order all whole fits) (first_spelled size all)) in
              record { reading = on.reading; read = on.read; more = captured ∷ on.more; first = on.first ∙ append_assoc records (captured ∷ []) on.more }
        ]
      ]
    ]
