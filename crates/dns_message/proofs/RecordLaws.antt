-- The walks over names and records, one step at a time.
use Rattle.dns_message.proofs.Prelude.{◌≡◌, ℕ, zero, suc, ◌+◌, ◌<◌, ◌≤◌, Bool, true, false, cond, eqb, if◌then◌else◌, ltb, slice_index}
use Rattle.dns_message.proofs.Prelude.{List, [], ◌∷◌, length, drop, refl, sym, ap, ◌∙◌, arith, add-one, Option, None, Some, after_the_name}
use Rattle.dns_message.proofs.Prelude.{after_pointer, Record, address_in, answer_by, answer_of_records, first_record, is_address, records}
use Rattle.dns_message.proofs.Prelude.{records_by, Answer, Address, find}

pub skipped : (k : ℕ) (bytes : List ℕ) → k ≤ length bytes → after_the_name k bytes ≡ after_the_name 0 (drop k bytes)
skipped zero bytes h = refl
skipped (suc k) [] h = absurd (omega arith)
skipped (suc k) (b ∷ bytes) h = skipped k bytes (omega arith)

pub cut_off : (k : ℕ) (bytes : List ℕ) → length bytes < k → after_the_name k bytes ≡ None
cut_off k [] h = refl
cut_off zero (b ∷ bytes) h = absurd (omega arith)
cut_off (suc k) (b ∷ bytes) h = cut_off k bytes (omega arith)

some_count : (count : ℕ) → (count ≡ 0 → ⊥) → eqb count 0 ≡ false
some_count count h = grind arith

short_count : (count : ℕ) → count < 64 → ltb count 64 ≡ true
short_count count h = grind arith

-- a name that begins with a label continues after it
pub label_first : (bytes : List ℕ) (count : ℕ) → 1 ≤ length bytes → count ≡ slice_index bytes 0 → (count ≡ 0 → ⊥) → count < 64
    → after_the_name 0 bytes ≡ after_the_name count (drop 1 bytes)
label_first [] count h same some short = absurd (omega arith)
label_first (b ∷ bytes) count h same some short =
    let e : b ≡ count = sym same in
    ap (λ c. after_the_name 0 (c ∷ bytes)) e
    ∙ ap (λ t. if t then Some bytes else if ltb count 64 then after_the_name count bytes else if ltb count 192 then None else after_pointer
    bytes) (some_count count some)
    ∙ ap (λ t. if t then after_the_name count bytes else if ltb count 192 then None else after_pointer bytes) (short_count count short)

not_address_by : (b : Bool) (content : List ℕ) → ◌≡◌ {A = Option (List ℕ)} (if b then Some content else None) None → b ≡ false
not_address_by true content e = absurd (cc e)
not_address_by false content e = refl

pub not_address : (r : Record) → address_in r ≡ None → is_address r ≡ false
not_address r e = not_address_by (is_address r) r.content e

abbrev by_list : ℕ → List Record → Option Answer
by_list n found = answer_by (find is_address found) (eqb (length found) n)

not_all : (n : ℕ) → eqb 0 (suc n) ≡ false
not_all n = grind arith

pub none_left : (n m : ℕ) (bytes : List ℕ) → n ≡ m + 1 → first_record bytes ≡ None → answer_of_records n bytes ≡ None
none_left zero m bytes size e = absurd (omega arith)
none_left (suc n) m bytes size e =
    ap (λ l. by_list (suc n) (records_by (records n) l)) e ∙ ap (λ b. answer_by None b) (not_all n)

same_size : (a b : ℕ) → eqb (suc a) (suc b) ≡ eqb a b
same_size a b = grind arith

pub other_first : (n m : ℕ) (bytes rest : List ℕ) (r : Record) → n ≡ m + 1 → first_record bytes ≡ Some (r, rest) → is_address r ≡ false
    → answer_of_records n bytes ≡ answer_of_records m rest
other_first zero m bytes rest r size e is = absurd (omega arith)
other_first (suc n) m bytes rest r size e is =
    let same : n ≡ m = omega arith in
    ap (λ l. by_list (suc n) (records_by (records n) l)) e
    ∙ ap (λ t. answer_by (cond t (Some r) (find is_address (records n rest))) (eqb (length (r ∷ records n rest)) (suc n))) is
    ∙ ap (λ b. answer_by (find is_address (records n rest)) b) (same_size (length (records n rest)) n)
    ∙ ap (λ k. answer_of_records k rest) same
