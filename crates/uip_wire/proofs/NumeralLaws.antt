-- Numerals, and the numbers that print as them.
use Rattle.uip_wire.proofs.Prelude.{◌≡◌, ℕ, ◌+◌, ◌-◌, ◌*◌, ◌^◌, ◌<◌, ◌≤◌, ◌&&◌, Bool, true, false, cond, leb, zero, suc, ◌⊎◌, inl, inr}
use Rattle.uip_wire.proofs.Prelude.{List, [], ◌∷◌, length, take, get_or, nat_lt, eqb, eq-eqb, None, Some, rules, refl, sym, ap, ◌∙◌, arith}
use Rattle.uip_wire.proofs.Prelude.{digit_value, is_ascii_digit, decimal, list_all, digits_value, and_parts, leb-true, ltb-true, lt-ltb}
use Rattle.uip_wire.proofs.Prelude.{ne_eqb, decimal-digits_value, decimal_digit, decimal_nonempty, digits_decimal, digits_value-decimal}
use Rattle.uip_wire.proofs.Prelude.{first_decimal, digits_value_more, digit_value_digit, list_all_at, IsNumeralModel, digits_value-take-le}
use Rattle.uip_wire.proofs.Prelude.{numerals_by_value, NumeralsPrint, is_numeral, leads_badly, numeral}

own : IsNumeralModel (λ ds. list_all is_ascii_digit ds ≡ true) (digits_value 10)
own = numerals_by_value _ (search rules)

pub all_digits : (text : List ℕ) → is_numeral text ≡ true → list_all is_ascii_digit text ≡ true
all_digits text e =
    elim (leads_badly text) as (λ v. cond v false (list_all is_ascii_digit text) ≡ true → list_all is_ascii_digit text ≡ true)
    [ true ↦ λ e. absurd (cc e) | false ↦ λ e. e ] e

leads_well : (text : List ℕ) → is_numeral text ≡ true → leads_badly text ≡ false
leads_well text e =
    elim (leads_badly text) as (λ v. cond v false (list_all is_ascii_digit text) ≡ true → v ≡ false)
    [ true ↦ λ e. absurd (cc e) | false ↦ λ e. refl ] e

not_empty : (text : List ℕ) → is_numeral text ≡ true → 0 < length text
not_empty [] e = absurd (cc e)
not_empty (c ∷ text) e = omega arith

zero_alone : (text : List ℕ) → leads_badly text ≡ false → get_or text 0 0 ≡ 48 → length text ≡ 1
zero_alone [] e z = absurd (cc e)
zero_alone (c ∷ []) e z = omega arith
zero_alone (c ∷ d ∷ rest) e z = let same : eqb c 48 ≡ true = eq-eqb c 48 z in absurd (cc (same, e))

leads_so : (text : List ℕ) → 0 < length text → (length text ≡ 1) ⊎ (48 < get_or text 0 0) → leads_badly text ≡ false
leads_so [] some h = absurd (omega arith)
leads_so (c ∷ []) some h = refl
leads_so (c ∷ d ∷ rest) some (inl one) = absurd (omega arith)
leads_so (c ∷ d ∷ rest) some (inr more) = ne_eqb c 48 (λ z. omega (arith, z, more))

tested : (b : Bool) (v n : ℕ) → cond b (Some v) None ≡ Some n → (b ≡ true) × (v ≡ n)
tested true v n e = (refl, cc e)
tested false v n e = absurd (cc e)

pub numeral_prints : (text : List ℕ) (n : ℕ) → numeral text ≡ Some n → text ≡ decimal n
numeral_prints text n e =
    let p = tested (is_numeral text && nat_lt (digits_value 10 text) (2 ^ 64)) (digits_value 10 text) n e in
    let q = and_parts (is_numeral text) (nat_lt (digits_value 10 text) (2 ^ 64)) p.0 in
    sym (decimal-digits_value own text (all_digits text q.0) (not_empty text q.0) (zero_alone text (leads_well text q.0)) (ltb-true _ _ q.1)) ∙ ap decimal p.1

decimal_leads : (n : ℕ) → n < 2 ^ 64 → leads_badly (decimal n) ≡ false
decimal_leads zero small = ap leads_badly (decimal_digit 0 (omega arith))
decimal_leads (suc n) small = leads_so (decimal (suc n)) (decimal_nonempty (suc n) small) (inr (first_decimal (suc n) (omega arith) small))

formed : (a b : Bool) → a ≡ false → b ≡ true → cond a false b ≡ true
formed true b p q = absurd (cc p)
formed false b p q = q

made : (b c : Bool) (v n : ℕ) → b ≡ true → c ≡ true → v ≡ n → cond (b && c) (Some v) None ≡ Some n
made true true v n p q e = ap Some e
made true false v n p q e = absurd (cc q)
made false c v n p q e = absurd (cc p)

decimal_read : (n : ℕ) → n < 2 ^ 64 → numeral (decimal n) ≡ Some n
decimal_read n small =
    let is = formed (leads_badly (decimal n)) (list_all is_ascii_digit (decimal n)) (decimal_leads n small) (digits_decimal own n small) in
    let value : digits_value 10 (decimal n) ≡ n = digits_value-decimal own n small in
    made (is_numeral (decimal n)) (nat_lt (digits_value 10 (decimal n)) (2 ^ 64)) (digits_value 10 (decimal n)) n is (lt-ltb _ _ (omega (arith, value))) value

pub numerals_print : NumeralsPrint
numerals_print text n small = (numeral_prints text n, λ e. ap numeral e ∙ decimal_read n small)

digit_is : (c : ℕ) → is_ascii_digit c ≡ true → digit_value c ≡ c - 48
digit_is c e =
    let p = and_parts (leb 48 c) (leb c 57) e in
    omega (arith, digit_value_digit c (leb-true 48 c p.0, leb-true c 57 p.1))

-- a digit's value
pub digit_at : (text : List ℕ) (i : ℕ) → i < length text → list_all is_ascii_digit text ≡ true → digit_value (get_or text i 0) ≡ get_or text i 0 - 48
digit_at text i inside all =
    elim (is_ascii_digit (get_or text i 0)) as (λ b. is_ascii_digit (get_or text i 0) ≡ b → digit_value (get_or text i 0) ≡ get_or text i 0 - 48) [
      | true ↦ λ e. digit_is (get_or text i 0) e
      | false ↦ λ e. absurd (cc (list_all_at is_ascii_digit text i 0 inside e, all))
    ] refl

-- the value after one more digit
pub value_more : (text : List ℕ) (i : ℕ) → i < length text → list_all is_ascii_digit text ≡ true
    → digits_value 10 (take (i + 1) text) ≡ digits_value 10 (take i text) * 10 + (get_or text i 0 - 48)
value_more text i inside all = omega (arith, digits_value_more 10 text i inside, digit_at text i inside all)

pub too_great : (text : List ℕ) (i : ℕ) → i < length text → list_all is_ascii_digit text ≡ true
    → 2 ^ 64 ≤ digits_value 10 (take i text) * 10 + (get_or text i 0 - 48) → 2 ^ 64 ≤ digits_value 10 text
too_great text i inside all great = omega (arith, value_more text i inside all, digits_value-take-le 10 text (i + 1) (omega arith), great)

-- a number that is too great has no numeral below 2^64
pub none_over : (v : ℕ) → 2 ^ 64 ≤ v → None ≡ cond (nat_lt v (2 ^ 64)) (Some v) None
none_over v great =
    elim (nat_lt v (2 ^ 64)) as (λ b. nat_lt v (2 ^ 64) ≡ b → None ≡ cond b (Some v) None)
    [ true ↦ λ e. absurd (omega (arith, ltb-true v (2 ^ 64) e, great)) | false ↦ λ e. refl ] refl
