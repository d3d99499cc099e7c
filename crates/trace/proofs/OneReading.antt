-- The bytes of a capture file have one reading.
use Rattle.trace.proofs.Prelude.{◌≡◌, ℕ, ◌+◌, ◌<◌, ◌≤◌, Bool, true, false, ◌&&◌, leb, ltb, if◌then◌else◌, List, [], ◌∷◌, ◌++◌, Some, None}
use Rattle.trace.proofs.Prelude.{length, take, drop, refl, sym, ap, ◌∙◌, append_assoc, arith, length-append, subst, le-leb, leb-true}
use Rattle.trace.proofs.Prelude.{lt-ltb, ltb-true, drop-append_seam, AllByRecursion, flat_map, LARGEST_DATAGRAM, BeginsWith, Captured}
use Rattle.trace.proofs.Prelude.{IsCaptured, IsCutRecord, IsReadAs, HasLongRecord, Reading, captured_bytes, length_in, order_of, BadHeader}
use Rattle.trace.proofs.Prelude.{BadLength, InRecord, InHeader, Whole, ByteOrder}
use Rattle.trace.proofs.CaptureLaws.{prefix_of, length_in-append}

-- two prefixes of one length
equal_prefix : {X : Type 0} (xs xs' ys ys' : List X) → length xs ≡ length xs' → xs ++ ys ≡ xs' ++ ys' → (xs ≡ xs') × (ys ≡ ys')
equal_prefix xs xs' ys ys' size e = (
  sym (prefix_of (length xs) xs ys refl) ∙ ap (λ l. take (length xs) l) e ∙ prefix_of (length xs) xs' ys' (sym size),
  sym (drop-append_seam xs ys) ∙ ap (λ l. drop (length xs) l) e ∙ ap (λ n. drop n (xs' ++ ys')) size ∙ drop-append_seam xs' ys',
)

-- the bytes do not begin with a record
abbrev pub HasNone : ByteOrder → List ℕ → Type 0
HasNone order rest = (captured : Captured) (more : List ℕ) → IsCaptured order captured → rest ≡ captured_bytes captured ++ more → ⊥

-- a record at the start of bytes
prefix_size : (order : ByteOrder) (rest : List ℕ) (captured : Captured) (more : List ℕ) → IsCaptured order captured → rest ≡ captured_bytes captured ++ more
    → length rest ≡ 16 + length captured.body + length more
prefix_size order rest captured more is e =
    let h = is.head in
    let size = ap (λ l. length l) e in
    omega (arith, size, length-append (captured_bytes captured) more, length-append captured.head captured.body)

prefix_long : (order : ByteOrder) (rest : List ℕ) (captured : Captured) (more : List ℕ) → IsCaptured order captured → rest ≡ captured_bytes captured ++ more
    → length_in order rest ≡ length captured.body
prefix_long order rest captured more is e =
    let h = is.head in
    ap (λ l. length_in order l) (e ∙ append_assoc captured.head captured.body more)
    ∙ length_in-append order captured.head (captured.body ++ more) (omega arith) ∙ sym is.body

none_in_nothing : (order : ByteOrder) → HasNone order []
none_in_nothing order captured more is e = let size = prefix_size order [] captured more is e in absurd (omega arith)

none_in_part : (order : ByteOrder) (rest : List ℕ) → IsCutRecord order rest → HasNone order rest
none_in_part order rest part captured more is e =
    let size = prefix_size order rest captured more is e in
    let tells = prefix_long order rest captured more is e in
    let short = part.short (omega arith) in
    absurd (omega arith)

none_in_long : (order : ByteOrder) (rest : List ℕ) → HasLongRecord order rest → HasNone order rest
none_in_long order rest long captured more is e =
    let tells = prefix_long order rest captured more is e in
    let fits = is.fits in
    let more_than = long.long in
    absurd (omega arith)

same_captured : (e f : Captured) → e.head ≡ f.head → e.body ≡ f.body → e ≡ f
same_captured e f h b = ap (λ l. record { head = l; body = e.body }) h ∙ ap (λ l. record { head = f.head; body = l }) b

-- the records are the same, and so is what follows them
pub same_records : (order : ByteOrder) (es fs : List Captured) (rest rest' : List ℕ) → AllByRecursion (IsCaptured order) es
    → AllByRecursion (IsCaptured order) fs
    → HasNone order rest → HasNone order rest' → flat_map captured_bytes es ++ rest ≡ flat_map captured_bytes fs ++ rest' → (es ≡ fs) × (rest ≡ rest')
same_records order [] [] rest rest' a b n m e = (refl, e)
same_records order [] (f ∷ fs) rest rest' a b n m e =
    absurd (n f (flat_map captured_bytes fs ++ rest') b.0 (e ∙ append_assoc (captured_bytes f) (flat_map captured_bytes fs) rest'))
same_records order (x ∷ es) [] rest rest' a b n m e =
    absurd (m x (flat_map captured_bytes es ++ rest) a.0 (sym e ∙ append_assoc (captured_bytes x) (flat_map captured_bytes es) rest))
same_records order (x ∷ es) (f ∷ fs) rest rest' a b n m e =
    let xs = flat_map captured_bytes es ++ rest in
    let ys = flat_map captured_bytes fs ++ rest' in
    let whole : captured_bytes x ++ xs ≡ captured_bytes f ++ ys =
    sym (append_assoc (captured_bytes x) (flat_map captured_bytes es) rest) ∙ e ∙ append_assoc (captured_bytes f) (flat_map captured_bytes fs) rest' in
    let heads = equal_prefix x.head f.head (x.body ++ xs) (f.body ++ ys) (a.0.head ∙ sym b.0.head)
    (sym (append_assoc x.head x.body xs) ∙ whole ∙ append_assoc f.head f.body ys) in
    let bodies = equal_prefix x.body f.body xs ys (a.0.body ∙ ap (λ l. length_in order l) heads.0 ∙ sym b.0.body) heads.1 in
    let on = same_records order es fs rest rest' a.1 b.1 n m bodies.1 in
    (ap (λ l. l ∷ es) (same_captured x f heads.0 bodies.0) ∙ ap (λ l. f ∷ l) on.0, on.1)

-- the reading of the bytes after whole records
abbrev pub kind_of : ByteOrder → List Captured → List ℕ → Reading
kind_of order records [] = Whole records
kind_of order records (b ∷ rest) =
    if leb 16 (length (b ∷ rest)) && ltb LARGEST_DATAGRAM (length_in order (b ∷ rest)) then BadLength records else InRecord records

-- bytes with a good header
pub record Representing (bytes : List ℕ) (reading : Reading) : Type 0 where
  pub order : ByteOrder
  pub records : List Captured
  pub rest : List ℕ
  pub begins : BeginsWith order records rest bytes
  pub none : HasNone order rest
  pub kind : reading ≡ kind_of order records rest

module _ (bytes : List ℕ) where
  header_in : (order : ByteOrder) (records : List Captured) (rest : List ℕ) → BeginsWith order records rest bytes → (24 ≤ length bytes)
      × (order_of (take 24 bytes) ≡ Some order)
  header_in order records rest b =
      let all = flat_map captured_bytes records ++ rest in
      let same : bytes ≡ b.header ++ all = b.spelled ∙ append_assoc b.header (flat_map captured_bytes records) rest in
      let size = ap (λ l. length l) same in
      let h = b.size in (
        omega (arith, length-append b.header all),
        ap (λ l. order_of (take 24 l)) same ∙ ap (λ l. order_of l) (prefix_of 24 b.header all b.size) ∙ b.good,
      )

  one_representing : (one other : Reading) → Representing bytes one → Representing bytes other → one ≡ other
  one_representing one other s t =
      let a = s.begins in
      let b = t.begins in
      let orders : s.order ≡ t.order = (let p = (header_in s.order s.records s.rest a).1 in let q = (header_in t.order t.records t.rest b).1 in cc) in
      let all = flat_map captured_bytes s.records ++ s.rest in
      let all' = flat_map captured_bytes t.records ++ t.rest in
      let rests = equal_prefix a.header b.header all all' (a.size ∙ sym b.size)
      (sym (append_assoc a.header (flat_map captured_bytes s.records) s.rest) ∙ sym a.spelled ∙ b.spelled
      ∙ append_assoc b.header (flat_map captured_bytes t.records) t.rest) in
      let same = same_records t.order s.records t.records s.rest t.rest
      (subst (λ (o : ByteOrder). AllByRecursion (IsCaptured o) s.records) orders a.sound) b.sound
      (subst (λ (o : ByteOrder). HasNone o s.rest) orders s.none) t.none rests.1 in
      s.kind ∙ ap (λ o. kind_of o s.records s.rest) orders ∙ ap (λ l. kind_of t.order l s.rest) same.0
      ∙ ap (λ l. kind_of t.order t.records l) same.1 ∙ sym t.kind

and_true : (a b : Bool) → (a && b) ≡ true → (a ≡ true) × (b ≡ true)
and_true true b e = (refl, e)
and_true false b e = absurd cc

if_not : (b : Bool) (x y : Reading) → (b ≡ true → ⊥) → y ≡ (if b then x else y)
if_not true x y never = absurd (never refl)
if_not false x y never = refl

in_record : (order : ByteOrder) (records : List Captured) (rest : List ℕ) → 0 < length rest → IsCutRecord order rest
    → InRecord records ≡ kind_of order records rest
in_record order records [] some part = absurd (omega arith)
in_record order records (b ∷ rest) some part =
    let all = b ∷ rest in
    if_not (leb 16 (length all) && ltb LARGEST_DATAGRAM (length_in order all)) (BadLength records) (InRecord records) (λ e.
    let each = and_true (leb 16 (length all)) (ltb LARGEST_DATAGRAM (length_in order all)) e in
    let head : 16 ≤ length all = leb-true 16 (length all) each.0 in
    let long : LARGEST_DATAGRAM < length_in order all = ltb-true LARGEST_DATAGRAM (length_in order all) each.1 in
    let fits = part.fits head in
    omega arith)

bad_length : (order : ByteOrder) (records : List Captured) (rest : List ℕ) → HasLongRecord order rest → BadLength records ≡ kind_of order records rest
bad_length order records [] long = (let head = long.head in absurd (omega arith))
bad_length order records (b ∷ rest) long =
    let all = b ∷ rest in
    let p : leb 16 (length all) ≡ true = le-leb 16 (length all) long.head in
    let q : ltb LARGEST_DATAGRAM (length_in order all) ≡ true = lt-ltb LARGEST_DATAGRAM (length_in order all) long.long in
    rw (p, q) refl

data Case (bytes : List ℕ) (reading : Reading) : Type 0 where
  Short : length bytes < 24 → reading ≡ InHeader → Case bytes reading
  Bad : 24 ≤ length bytes → order_of (take 24 bytes) ≡ None → reading ≡ BadHeader → Case bytes reading
  Good : Representing bytes reading → Case bytes reading

good : (bytes : List ℕ) (reading : Reading) (order : ByteOrder) (records : List Captured) (rest : List ℕ)
    → BeginsWith order records rest bytes → HasNone order rest
    → reading ≡ kind_of order records rest → Case bytes reading
good bytes reading order records rest begins none kind =
    Good (record { order = order; records = records; rest = rest; begins = begins; none = none; kind = kind })

case_of : (bytes : List ℕ) (reading : Reading) → IsReadAs bytes reading → Case bytes reading
case_of bytes InHeader read = Short read refl
case_of bytes BadHeader read = Bad read.0 read.1 refl
case_of bytes (Whole records) read = good bytes (Whole records) read.0 records [] read.1 (none_in_nothing read.0) refl
case_of bytes (InRecord records) read =
    good bytes (InRecord records) read.0 records read.1 read.2 (none_in_part read.0 read.1 read.4) (in_record read.0 records read.1 read.3 read.4)
case_of bytes (BadLength records) read =
    good bytes (BadLength records) read.0 records read.1 read.2 (none_in_long read.0 read.1 read.3) (bad_length read.0 records read.1 read.3)

same_case : (bytes : List ℕ) (one other : Reading) → Case bytes one → Case bytes other → one ≡ other
same_case bytes one other (Short s e) (Short t f) = e ∙ sym f
same_case bytes one other (Short s e) (Bad t never f) = absurd (omega arith)
same_case bytes one other (Short s e) (Good t) = let size = (header_in bytes t.order t.records t.rest t.begins).0 in absurd (omega arith)
same_case bytes one other (Bad s never e) (Short t f) = absurd (omega arith)
same_case bytes one other (Bad s none e) (Bad t never f) = e ∙ sym f
same_case bytes one other (Bad s never e) (Good t) = let good = (header_in bytes t.order t.records t.rest t.begins).1 in absurd cc
same_case bytes one other (Good s) (Short t f) = let size = (header_in bytes s.order s.records s.rest s.begins).0 in absurd (omega arith)
same_case bytes one other (Good s) (Bad t never f) = let good = (header_in bytes s.order s.records s.rest s.begins).1 in absurd cc
same_case bytes one other (Good s) (Good t) = one_representing bytes one other s t

pub one_reading : (bytes : List ℕ) (one other : Reading) → IsReadAs bytes one → IsReadAs bytes other → one ≡ other
one_reading bytes one other p q = same_case bytes one other (case_of bytes one p) (case_of bytes other q)
