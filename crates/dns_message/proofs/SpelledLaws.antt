-- The records that are read from bytes are those that the bytes represent.
use Rattle.dns_message.proofs.Prelude.{◌≡◌, ℕ, zero, suc, ◌+◌, ◌-◌, ◌*◌, ◌<◌, ◌≤◌, ◌⊎◌, inl, inr, Bool, true, false, ◌&&◌, eqb, leb, ltb}
use Rattle.dns_message.proofs.Prelude.{if◌then◌else◌, List, [], ◌∷◌, ◌++◌, length, length-append, length-take, length-drop, map, take, drop}
use Rattle.dns_message.proofs.Prelude.{slice_index, slice_range, Option, Some, None, option_and_then, refl, sym, ap, ◌∙◌, append_assoc}
use Rattle.dns_message.proofs.Prelude.{arith, subst, get_or-append, drop_split, drop-drop, drop_at, get_or-take, take-append-drop, take_at}
use Rattle.dns_message.proofs.Prelude.{AllByRecursion, flat_map, list_all, word_at, passes, not_less, after_the_name, after_pointer}
use Rattle.dns_message.proofs.Prelude.{label_bytes, AreSpelled, IsSpelled, RecordsAreSpelled, Spelled, has_label_size, is_ending, record_of}
use Rattle.dns_message.proofs.Prelude.{spelled_bytes, Record, first_record, record_after, records, records_by}
use Rattle.dns_message.proofs.RecordLaws.{label_first}

both_true : (a b : Bool) → (a && b) ≡ true → (a ≡ true) × (b ≡ true)
both_true true b e = (refl, e)
both_true false b e = absurd (cc e)

le_of : (a b : ℕ) → leb a b ≡ true → a ≤ b
le_of a b e = grind arith

same_of : (a b : ℕ) → eqb a b ≡ true → a ≡ b
same_of a b e = grind arith

less_of : (a b : ℕ) → ltb a b ≡ true → a < b
less_of a b e = grind arith

least_of : (a b : ℕ) → ltb a b ≡ false → b ≤ a
least_of a b e = grind arith

other_of : (a b : ℕ) → eqb a b ≡ false → (a ≡ b → ⊥)
other_of a b e = grind arith

unequal : (a b : ℕ) → b < a → eqb a b ≡ false
unequal a b h = grind arith

at_most : (a b : ℕ) → a ≤ b → leb a b ≡ true
at_most a b h = grind arith

some_same : (a b : List ℕ) → ◌≡◌ {A = Option (List ℕ)} (Some a) (Some b) → a ≡ b
some_same a b e = cc e

some_pair : (a b : Record × List ℕ) → ◌≡◌ {A = Option (Record × List ℕ)} (Some a) (Some b) → a ≡ b
some_pair a b e = cc e

sized_at : (n : ℕ) → 1 ≤ n → n ≤ 63 → (leb 1 n && leb n 63) ≡ true
sized_at n low high = rw (at_most 1 n low, at_most n 63 high) refl

ten_less : (n : ℕ) → 10 + n - 10 ≡ n
ten_less n = omega arith

never : {p : Record × List ℕ} → ◌≡◌ {A = Option (Record × List ℕ)} None (Some p) → ⊥
never e = cc e

one_more : (k n : ℕ) (P : Type 0) → (k ≡ n) ⊎ P → (suc k ≡ suc n) ⊎ P
one_more k n P (inl e) = inl (ap suc e)
one_more k n P (inr p) = inr p

none_in : (l : List ℕ) → length l ≡ 0 → l ≡ []
none_in [] e = refl
none_in (a ∷ l) e = absurd (omega arith)

-- ---- a name that is spelled is walked

skip_label : (label rest : List ℕ) → after_the_name (length label) (label ++ rest) ≡ after_the_name 0 rest
skip_label [] rest = refl
skip_label (b ∷ label) rest = skip_label label rest

ended : (ending rest : List ℕ) → is_ending ending ≡ true → after_the_name 0 (ending ++ rest) ≡ Some rest
ended [] rest e = absurd (cc e)
ended (b ∷ []) rest e = ap (λ t. if t then Some rest else if ltb b 64 then after_the_name b rest else if ltb b 192 then None else after_pointer rest) e
ended (b ∷ c ∷ []) rest e =
    let high = le_of 192 b e in
    ap (λ t. if t then Some (c ∷ rest) else if ltb b 64 then after_the_name b (c ∷ rest) else if ltb b 192 then None else Some rest) (unequal b 0 (omega arith))
    ∙ ap (λ t. if t then after_the_name b (c ∷ rest) else if ltb b 192 then None else Some rest) (not_less b 64 (omega arith))
    ∙ ap (λ t. if t then None else Some rest) (not_less b 192 high)
ended (b ∷ c ∷ d ∷ more) rest e = absurd (cc e)

walked : (owner : List (List ℕ)) (ending rest : List ℕ) → list_all has_label_size owner ≡ true → is_ending ending ≡ true
    → after_the_name 0 ((flat_map label_bytes owner ++ ending) ++ rest) ≡ Some rest
walked [] ending rest sized e = ended ending rest e
walked (label ∷ owner) ending rest sized e =
    let p = both_true (has_label_size label) (list_all has_label_size owner) sized in
    let q = both_true (leb 1 (length label)) (leb (length label) 63) p.0 in
    let low = le_of 1 (length label) q.0 in
    let high = le_of (length label) 63 q.1 in
    let later = flat_map label_bytes owner in
    let bytes = (flat_map label_bytes (label ∷ owner) ++ ending) ++ rest in
    label_first bytes (length label) (omega arith) refl (λ z. omega arith) (omega arith)
    ∙ ap (λ l. after_the_name (length label) l) (append_assoc (label ++ later) ending rest ∙ append_assoc label later (ending ++ rest)
    ∙ ap (λ l. label ++ l) (sym (append_assoc later ending rest)))
    ∙ skip_label label ((later ++ ending) ++ rest) ∙ walked owner ending rest p.1 e

-- ---- and what is walked was spelled

record Cut (k : ℕ) (bytes rest : List ℕ) : Type 0 where
  label : List ℕ
  size : length label ≡ k
  owner : List (List ℕ)
  ending : List ℕ
  sized : list_all has_label_size owner ≡ true
  closed : is_ending ending ≡ true
  whole : bytes ≡ label ++ ((flat_map label_bytes owner ++ ending) ++ rest)

pointer_cut : (b : ℕ) (bytes rest : List ℕ) → 192 ≤ b → after_pointer bytes ≡ Some rest → Cut 0 (b ∷ bytes) rest
pointer_cut b [] rest h e = absurd (cc e)
pointer_cut b (c ∷ bytes) rest h e = record {
  label = [];
  size = refl;
  owner = [];
  ending = b ∷ c ∷ [];
  sized = refl;
  closed = at_most 192 b h;
  whole = ap (λ l. b ∷ c ∷ l) (some_same bytes rest e);
}

label_cut : (b : ℕ) (bytes rest : List ℕ) → (b ≡ 0 → ⊥) → b < 64 → Cut b bytes rest → Cut 0 (b ∷ bytes) rest
label_cut b bytes rest some short c =
    let later = flat_map label_bytes c.owner in
    record {
      label = [];
      size = refl;
      owner = c.label ∷ c.owner;
      ending = c.ending;
      sized = ap (λ t. t && list_all has_label_size c.owner) (sized_at (length c.label) (omega (arith, c.size, some)) (omega (arith, c.size, short))) ∙ c.sized;
      closed = c.closed;
      whole =
          ap (λ n. n ∷ bytes) (sym c.size)
          ∙ ap (λ l. length c.label ∷ l) (c.whole ∙ ap (λ l. c.label ++ l) (append_assoc later c.ending rest)
          ∙ sym (append_assoc c.label later (c.ending ++ rest)) ∙ sym (append_assoc (c.label ++ later) c.ending rest));
    }

cut_by : (b : ℕ) (bytes rest : List ℕ) (x y z : Bool) → eqb b 0 ≡ x → ltb b 64 ≡ y → ltb b 192 ≡ z → (after_the_name b bytes ≡ Some rest → Cut b bytes rest)
    → (if x then Some bytes else if y then after_the_name b bytes else if z then None else after_pointer bytes) ≡ Some rest → Cut 0 (b ∷ bytes) rest
cut_by b bytes rest true y z p q r more e = record {
  label = [];
  size = refl;
  owner = [];
  ending = 0 ∷ [];
  sized = refl;
  closed = refl;
  whole = ap (λ n. n ∷ bytes) (same_of b 0 p) ∙ ap (λ l. 0 ∷ l) (some_same bytes rest e);
}
cut_by b bytes rest false true z p q r more e = label_cut b bytes rest (other_of b 0 p) (less_of b 64 q) (more e)
cut_by b bytes rest false false true p q r more e = absurd (cc e)
cut_by b bytes rest false false false p q r more e = pointer_cut b bytes rest (least_of b 192 r) e

cut : (k : ℕ) (bytes rest : List ℕ) → after_the_name k bytes ≡ Some rest → Cut k bytes rest
cut k [] rest e = absurd (cc e)
cut zero (b ∷ bytes) rest e = cut_by b bytes rest (eqb b 0) (ltb b 64) (ltb b 192) refl refl refl (cut b bytes rest) e
cut (suc k) (b ∷ bytes) rest e =
    let c = cut k bytes rest e in
    record {
      label = b ∷ c.label;
      size = ap suc c.size;
      owner = c.owner;
      ending = c.ending;
      sized = c.sized;
      closed = c.closed;
      whole = ap (λ l. b ∷ l) c.whole;
    }

-- ---- the fields and the content

word_prefix : (fields rest : List ℕ) (at : ℕ) → at + 2 ≤ length fields → word_at (fields ++ rest) at ≡ word_at fields at
word_prefix fields rest at h =
    ap (λ n. 256 * n + slice_index (fields ++ rest) (at + 1)) (get_or-append fields rest 0 at (omega arith))
    ∙ ap (λ n. 256 * slice_index fields at + n) (get_or-append fields rest 0 (at + 1) (omega arith))

same_pair : (a a' b b' : ℕ) (c c' r r' : List ℕ) → a ≡ a' → b ≡ b' → c ≡ c' → r ≡ r'
    → ◌≡◌ {A = Option (Record × List ℕ)} (Some (record { kind = a; class = b; content = c }, r)) (Some (record { kind = a'; class = b'; content = c' }, r'))
same_pair a a' b b' c c' r r' p q s t = cc

read : (fields content more : List ℕ) → length fields ≡ 10 → word_at fields 8 ≡ length content
    → record_after (fields ++ (content ++ more)) ≡ Some (record { kind = word_at fields 0; class = word_at fields 2; content = content }, more)
read fields content more ten size =
    let bytes = fields ++ (content ++ more) in
    let n = length content in
    let long : length bytes ≡ 10 + (n + length more) = omega (arith, length-append fields (content ++ more), length-append content more, ten) in
    let reported : word_at bytes 8 ≡ n = word_prefix fields (content ++ more) 8 (omega (arith, ten)) ∙ size in
    let trailing : drop 10 bytes ≡ content ++ more = drop_at fields (content ++ more) 10 ten in
    passes _ _ _ _ (not_less (length bytes) 10 (omega (arith, long)))
    (passes _ _ _ _ (not_less (length bytes) (10 + word_at bytes 8) (omega (arith, long, reported)))
    (same_pair _ _ _ _ _ _ _ _ (word_prefix fields (content ++ more) 0 (omega (arith, ten))) (word_prefix fields (content ++ more) 2 (omega (arith, ten)))
    (ap (λ k. take (10 + k - 10) (drop 10 bytes)) reported ∙ ap (λ k. take k (drop 10 bytes)) (ten_less n) ∙ ap (λ l. take n l) trailing
    ∙ take_at content more n refl)
    (ap (λ k. drop (10 + k) bytes) reported ∙ sym (drop-drop n 10 bytes) ∙ ap (λ l. drop n l) trailing ∙ drop_at content more n refl)))

record Fields (bytes : List ℕ) (r : Record) (rest : List ℕ) : Type 0 where
  fields : List ℕ
  content : List ℕ
  ten : length fields ≡ 10
  size : word_at fields 8 ≡ length content
  whole : bytes ≡ fields ++ (content ++ rest)
  same : r ≡ record { kind = word_at fields 0; class = word_at fields 2; content = content }

word_taken : (bytes : List ℕ) (at : ℕ) → at + 2 ≤ 10 → word_at (take 10 bytes) at ≡ word_at bytes at
word_taken bytes at h =
    ap (λ n. 256 * n + slice_index (take 10 bytes) (at + 1)) (get_or-take 10 bytes at 0 (omega arith))
    ∙ ap (λ n. 256 * slice_index bytes at + n) (get_or-take 10 bytes (at + 1) 0 (omega arith))

abbrev record_at : List ℕ → Record
record_at bytes = record { kind = word_at bytes 0; class = word_at bytes 2; content = slice_range bytes 10 (10 + word_at bytes 8) }

same_record : (a a' b b' : ℕ) (c : List ℕ) → a ≡ a' → b ≡ b' → ◌≡◌ {A = Record} (record { kind = a; class = b; content = c })
    (record { kind = a'; class = b'; content = c })
same_record a a' b b' c p q = cc

fields_by : (bytes : List ℕ) (r : Record) (rest : List ℕ) (x y : Bool) → ltb (length bytes) 10 ≡ x → ltb (length bytes) (10 + word_at bytes 8) ≡ y
    → ◌≡◌ {A = Option (Record × List ℕ)} (if x then None else if y then None else Some (record_at bytes, drop (10 + word_at bytes 8) bytes))
    (Some (r, rest)) → Fields bytes r rest
fields_by bytes r rest true y p q e = absurd (cc e)
fields_by bytes r rest false true p q e = absurd (cc e)
fields_by bytes r rest false false p q e =
    let w = word_at bytes 8 in
    let least = least_of (length bytes) 10 p in
    let enough = least_of (length bytes) (10 + w) q in
    let ten : length (take 10 bytes) ≡ 10 = omega (arith, length-take 10 bytes, least) in
    let content = slice_range bytes 10 (10 + w) in
    let long : length content ≡ w = omega (arith, length-take (10 + w - 10) (drop 10 bytes), length-drop 10 bytes, enough) in
    let pair = some_pair (record_at bytes, drop (10 + w) bytes) (r, rest) e in
    let first : record_at bytes ≡ r = ap (λ (q : Record × List ℕ). q.0) pair in
    let trailing : drop (10 + w) bytes ≡ rest = ap (λ (q : Record × List ℕ). q.1) pair in
    record {
      fields = take 10 bytes;
      content = content;
      ten = ten;
      size = word_taken bytes 8 (omega arith) ∙ sym long;
      whole =
          sym (take-append-drop 10 bytes) ∙ ap (λ l. take 10 bytes ++ l) (drop_split bytes 10 (10 + w) (omega arith) ∙ ap (λ l. content ++ l) trailing);
      same = sym first ∙ same_record _ _ _ _ content (sym (word_taken bytes 0 (omega arith))) (sym (word_taken bytes 2 (omega arith)));
    }

fields_of : (bytes : List ℕ) (r : Record) (rest : List ℕ) → record_after bytes ≡ Some (r, rest) → Fields bytes r rest
fields_of bytes r rest e = fields_by bytes r rest (ltb (length bytes) 10) (ltb (length bytes) (10 + word_at bytes 8)) refl refl e

-- ---- the first record

record First (bytes : List ℕ) (r : Record) (rest : List ℕ) : Type 0 where
  s : Spelled
  is : IsSpelled s
  whole : bytes ≡ spelled_bytes s ++ rest
  same : r ≡ record_of s

first_by : (bytes : List ℕ) (r : Record) (rest : List ℕ) (o : Option (List ℕ)) → after_the_name 0 bytes ≡ o → option_and_then record_after o
    ≡ Some (r, rest) → First bytes r rest
first_by bytes r rest None is e = absurd (cc e)
first_by bytes r rest (Some trailing) is e =
    let c = cut 0 bytes trailing is in
    let f = fields_of trailing r rest e in
    let name = flat_map label_bytes c.owner ++ c.ending in
    record {
      s = record { owner = c.owner; ending = c.ending; fields = f.fields; content = f.content };
      is = record { owner = c.sized; ending = c.closed; fields = f.ten; content = f.size };
      whole =
          c.whole ∙ ap (λ l. l ++ (name ++ trailing)) (none_in c.label c.size) ∙ ap (λ l. name ++ l) (f.whole ∙ sym (append_assoc f.fields f.content rest))
          ∙ sym (append_assoc name (f.fields ++ f.content) rest);
      same = f.same;
    }

first : (bytes : List ℕ) (r : Record) (rest : List ℕ) → first_record bytes ≡ Some (r, rest) → First bytes r rest
first bytes r rest e = first_by bytes r rest (after_the_name 0 bytes) refl e

reported : (s : Spelled) (more : List ℕ) → IsSpelled s → first_record (spelled_bytes s ++ more) ≡ Some (record_of s, more)
reported s more is =
    let name = flat_map label_bytes s.owner ++ s.ending in
    ap (λ l. first_record l) (append_assoc name (s.fields ++ s.content) more ∙ ap (λ l. name ++ l) (append_assoc s.fields s.content more))
    ∙ ap (λ o. option_and_then record_after o) (walked s.owner s.ending (s.fields ++ (s.content ++ more)) is.owner is.ending)
    ∙ read s.fields s.content more is.fields is.content

-- ---- all of them

no_record : (bytes : List ℕ) → first_record bytes ≡ None → (s : Spelled) (more : List ℕ) → IsSpelled s → bytes ≡ spelled_bytes s ++ more → ⊥
no_record bytes e s more is whole = never (sym e ∙ ap (λ l. first_record l) whole ∙ reported s more is)

spelled_by : (n : ℕ) (bytes : List ℕ) (o : Option (Record × List ℕ)) → first_record bytes ≡ o → ((rest : List ℕ) → AreSpelled n rest) → AreSpelled (suc n) bytes
spelled_by n bytes None e more = record {
  list = [];
  rest = bytes;
  each = tt;
  whole = refl;
  same = ap (λ o. records_by (records n) o) e;
  all = inr (no_record bytes e);
}
spelled_by n bytes (Some (r, rest)) e more =
    let f = first bytes r rest e in
    let m = more rest in
    record {
      list = f.s ∷ m.list;
      rest = m.rest;
      each = (f.is, m.each);
      whole = f.whole ∙ ap (λ l. spelled_bytes f.s ++ l) m.whole ∙ sym (append_assoc (spelled_bytes f.s) (flat_map spelled_bytes m.list) m.rest);
      same = ap (λ o. records_by (records n) o) e ∙ ap (λ x. x ∷ records n rest) f.same ∙ ap (λ l. record_of f.s ∷ l) m.same;
      all = one_more (length m.list) n _ m.all;
    }

pub are_spelled : RecordsAreSpelled
are_spelled zero bytes = record { list = []; rest = bytes; each = tt; whole = refl; same = refl; all = inl refl }
are_spelled (suc n) bytes = spelled_by n bytes (first_record bytes) refl (are_spelled n)
