-- Eight bytes that are examined together as one number.
use Rattle.uip_slip.proofs.Prelude.{◌≡◌, ℕ, ◌+◌, ◌-◌, ◌*◌, ◌^◌, ◌<◌, ◌≤◌, ◌||◌, Bool, true, false, cond, eqb, zero, suc, List, [], ◌∷◌}
use Rattle.uip_slip.proofs.Prelude.{length, take, drop, get_or, map, bit_and, bit_or, bit_xor, refl, subst, sym, ap, ◌∙◌, arith, take-add}
use Rattle.uip_slip.proofs.Prelude.{eqb-true, and_block, or_block, xor_block, and_le_r, or_lt, xor_lt, from_le_bytes, w64, list_all}
use Rattle.uip_slip.proofs.Prelude.{list_all-append, length-drop, take_rest, IsFirstChunk, is_plain}

-- the first bytes have no mark
pub record PlainUntil (bytes : List ℕ) (at : ℕ) : Type 0 where
  pub within : at ≤ length bytes
  pub plain : list_all is_plain (take at bytes) ≡ true

-- each is a byte
abbrev pub AreBytes : List ℕ → Type 0
AreBytes bytes = (i : ℕ) → get_or bytes i 0 < 256

-- a function of bytes
abbrev pub IsOfBytes : (ℕ → ℕ) → Type 0
IsOfBytes f = (b : ℕ) → b < 256 → f b < 256

-- bytes as one number, the first one lowest
abbrev pub number_of : List ℕ → ℕ
number_of [] = 0
number_of (b ∷ bytes) = number_of bytes * 2 ^ 8 + b

pub and_each : (f g : ℕ → ℕ) → IsOfBytes f → IsOfBytes g → (bytes : List ℕ) → AreBytes bytes
    → bit_and (number_of (map f bytes)) (number_of (map g bytes)) ≡ number_of (map (λ b. bit_and (f b) (g b)) bytes)
and_each f g p q [] h = refl
and_each f g p q (b ∷ bytes) h =
    and_block 8 (number_of (map f bytes)) (number_of (map g bytes)) (f b) (g b) (p b (h 0)) (q b (h 0))
    ∙ ap (λ (n : ℕ). n * 2 ^ 8 + bit_and (f b) (g b)) (and_each f g p q bytes (λ i. h (suc i)))

pub or_each : (f g : ℕ → ℕ) → IsOfBytes f → IsOfBytes g → (bytes : List ℕ) → AreBytes bytes
    → bit_or (number_of (map f bytes)) (number_of (map g bytes)) ≡ number_of (map (λ b. bit_or (f b) (g b)) bytes)
or_each f g p q [] h = refl
or_each f g p q (b ∷ bytes) h =
    or_block 8 (number_of (map f bytes)) (number_of (map g bytes)) (f b) (g b) (p b (h 0)) (q b (h 0))
    ∙ ap (λ (n : ℕ). n * 2 ^ 8 + bit_or (f b) (g b)) (or_each f g p q bytes (λ i. h (suc i)))

pub xor_each : (f g : ℕ → ℕ) → IsOfBytes f → IsOfBytes g → (bytes : List ℕ) → AreBytes bytes
    → bit_xor (number_of (map f bytes)) (number_of (map g bytes)) ≡ number_of (map (λ b. bit_xor (f b) (g b)) bytes)
xor_each f g p q [] h = refl
xor_each f g p q (b ∷ bytes) h =
    xor_block 8 (number_of (map f bytes)) (number_of (map g bytes)) (f b) (g b) (p b (h 0)) (q b (h 0))
    ∙ ap (λ (n : ℕ). n * 2 ^ 8 + bit_xor (f b) (g b)) (xor_each f g p q bytes (λ i. h (suc i)))

pub add_each : (f g : ℕ → ℕ) (bytes : List ℕ) → number_of (map f bytes) + number_of (map g bytes) ≡ number_of (map (λ b. f b + g b) bytes)
add_each f g [] = refl
add_each f g (b ∷ bytes) = omega (arith, add_each f g bytes)

-- where two numbers are equal, so are their bytes
pub same_each : (f g : ℕ → ℕ) → IsOfBytes f → IsOfBytes g → (P : ℕ → Bool) → ((b : ℕ) → f b ≡ g b → P b ≡ true)
    → (bytes : List ℕ) → AreBytes bytes → number_of (map f bytes) ≡ number_of (map g bytes) → list_all P bytes ≡ true
same_each f g p q P holds [] h e = refl
same_each f g p q P holds (b ∷ bytes) h e =
    let fits : f b < 256 = p b (h 0) in
    let fits' : g b < 256 = q b (h 0) in
    let here : P b ≡ true = holds b (omega arith) in
    let rest : list_all P bytes ≡ true = same_each f g p q P holds bytes (λ i. h (suc i)) (omega arith) in
    rw (here, rest) refl

-- the number of eight bytes
eight_are : (n : ℕ) (bytes : List ℕ) → length bytes ≡ 8 → n ≡ from_le_bytes w64 bytes → n ≡ number_of bytes
eight_are n [] h e = absurd (omega arith)
eight_are n (a ∷ []) h e = absurd (omega arith)
eight_are n (a ∷ b ∷ []) h e = absurd (omega arith)
eight_are n (a ∷ b ∷ c ∷ []) h e = absurd (omega arith)
eight_are n (a ∷ b ∷ c ∷ d ∷ []) h e = absurd (omega arith)
eight_are n (a ∷ b ∷ c ∷ d ∷ i ∷ []) h e = absurd (omega arith)
eight_are n (a ∷ b ∷ c ∷ d ∷ i ∷ j ∷ []) h e = absurd (omega arith)
eight_are n (a ∷ b ∷ c ∷ d ∷ i ∷ j ∷ k ∷ []) h e = absurd (omega arith)
eight_are n (a ∷ b ∷ c ∷ d ∷ i ∷ j ∷ k ∷ l ∷ []) h e = omega arith
eight_are n (a ∷ b ∷ c ∷ d ∷ i ∷ j ∷ k ∷ l ∷ m ∷ more) h e = absurd (omega arith)

-- the number of equal bytes
repeated : ℕ → ℕ → ℕ
repeated b zero = 0
repeated b (suc n) = repeated b n * 2 ^ 8 + b

repeated_is : (b : ℕ) (bytes : List ℕ) → number_of (map (λ _. b) bytes) ≡ repeated b (length bytes)
unfolding repeated
repeated_is b [] = refl
repeated_is b (c ∷ bytes) = ap (λ (n : ℕ). n * 2 ^ 8 + b) (repeated_is b bytes)

all_of : (b : ℕ) (bytes : List ℕ) → length bytes ≡ 8 → repeated b 8 ≡ number_of (map (λ _. b) bytes)
all_of b bytes long = ap (repeated b) (sym long) ∙ sym (repeated_is b bytes)

same_all : (bytes : List ℕ) → bytes ≡ map (λ b. b) bytes
same_all [] = refl
same_all (b ∷ bytes) = ap (λ l. b ∷ l) (same_all bytes)

-- a byte is no mark if a test has the same answer as another one, and has not for END and ESC
plain_where : (f g : ℕ → ℕ) → (f 192 ≡ g 192 → ⊥) → (f 219 ≡ g 219 → ⊥) → (b : ℕ) → f b ≡ g b → is_plain b ≡ true
plain_where f g no_end no_esc b e =
    elim (eqb b 192) as (λ v. eqb b 192 ≡ v → cond (v || eqb b 219) false true ≡ true) [
      | true ↦ λ h. absurd (no_end (subst (λ (n : ℕ). f n ≡ g n) (eqb-true b 192 h) e))
      | false ↦ λ h. elim (eqb b 219) as (λ v. eqb b 219 ≡ v → cond v false true ≡ true) [
        | true ↦ λ i. absurd (no_esc (subst (λ (n : ℕ). f n ≡ g n) (eqb-true b 219 i) e))
        | false ↦ λ i. refl
      ] refl
    ] refl

-- what is computed of each byte
abbrev end_of : ℕ → ℕ
end_of b = bit_xor b 192

abbrev low_of : ℕ → ℕ
low_of b = bit_and (end_of b) 127

abbrev esc_of : ℕ → ℕ
esc_of b = bit_xor (low_of b) 27

abbrev both_of : ℕ → ℕ
both_of b = bit_and (low_of b + 127) (esc_of b + 127)

end_lt : IsOfBytes end_of
end_lt b h = xor_lt 8 b 192 h (omega arith)

low_le : (b : ℕ) → low_of b ≤ 127
low_le b = and_le_r (end_of b) 127

esc_lt : (b : ℕ) → esc_of b < 128
esc_lt b = xor_lt 7 (low_of b) 27 (omega (arith, low_le b)) (omega arith)

both_lt : IsOfBytes both_of
both_lt b h = omega (arith, and_le_r (low_of b + 127) (esc_of b + 127), esc_lt b)

const_lt : (n : ℕ) → n < 256 → IsOfBytes (λ _. n)
const_lt n less b h = less

same_lt : IsOfBytes (λ b. b)
same_lt b h = h

-- bytes whose high bits are all zero
pub plain_low : (bytes : List ℕ) (word : ℕ) → AreBytes bytes → length bytes ≡ 8 → word ≡ from_le_bytes w64 bytes
    → bit_and word 0x8080_8080_8080_8080 ≡ 0 → list_all is_plain bytes ≡ true
unfolding repeated
plain_low bytes word h long is e =
    let number : word ≡ number_of (map (λ b. b) bytes) = eight_are word bytes long is ∙ ap number_of (same_all bytes) in
    same_each (λ b. bit_and b 128) (λ _. 0) (λ b less. omega (arith, and_le_r b 128)) (const_lt 0 (omega arith)) is_plain
    (plain_where (λ b. bit_and b 128) (λ _. 0) (λ i. absurd (omega (arith, i))) (λ i. absurd (omega (arith, i)))) bytes h
    (sym (and_each (λ b. b) (λ _. 128) same_lt (const_lt 128 (omega arith)) bytes h)
    ∙ ap (λ (n : ℕ). bit_and n (number_of (map (λ _. 128) bytes))) (sym number)
    ∙ ap (λ (n : ℕ). bit_and word n) (sym (all_of 128 bytes long)) ∙ e ∙ all_of 0 bytes long)

-- bytes in which a bit differs from that of END, and one from that of ESC
pub plain_high : (bytes : List ℕ) (word : ℕ) → AreBytes bytes → length bytes ≡ 8 → word ≡ from_le_bytes w64 bytes
    → (ends low escs : ℕ) → ends ≡ bit_xor word 0xC0C0_C0C0_C0C0_C0C0 → low ≡ bit_and ends 0x7F7F_7F7F_7F7F_7F7F
    → escs ≡ bit_xor low 0x1B1B_1B1B_1B1B_1B1B
    → bit_and (bit_or (bit_and (low + 0x7F7F_7F7F_7F7F_7F7F) (escs + 0x7F7F_7F7F_7F7F_7F7F)) ends) 0x8080_8080_8080_8080 ≡ 0x8080_8080_8080_8080
    → list_all is_plain bytes ≡ true
unfolding repeated
plain_high bytes word h long is ends low escs ends_is low_is escs_is e =
    let all127 : 0x7F7F_7F7F_7F7F_7F7F ≡ number_of (map (λ _. 127) bytes) = all_of 127 bytes long in
    let all128 : 0x8080_8080_8080_8080 ≡ number_of (map (λ _. 128) bytes) = all_of 128 bytes long in
    let number : word ≡ number_of (map (λ b. b) bytes) = eight_are word bytes long is ∙ ap number_of (same_all bytes) in
    let ends_each : ends ≡ number_of (map end_of bytes) =
    ends_is ∙ two bit_xor number (all_of 192 bytes long) ∙ xor_each (λ b. b) (λ _. 192) same_lt (const_lt 192 (omega arith)) bytes h in
    let low_each : low ≡ number_of (map low_of bytes) =
    low_is ∙ two bit_and ends_each all127 ∙ and_each end_of (λ _. 127) end_lt (const_lt 127 (omega arith)) bytes h in
    let escs_each : escs ≡ number_of (map esc_of bytes) =
    escs_is ∙ two bit_xor low_each (all_of 27 bytes long)
    ∙ xor_each low_of (λ _. 27) (λ b less. omega (arith, low_le b)) (const_lt 27 (omega arith)) bytes h in
    let sums : bit_and (low + 0x7F7F_7F7F_7F7F_7F7F) (escs + 0x7F7F_7F7F_7F7F_7F7F) ≡ number_of (map both_of bytes) =
    two bit_and (two ◌+◌ low_each all127 ∙ add_each low_of (λ _. 127) bytes) (two ◌+◌ escs_each all127 ∙ add_each esc_of (λ _. 127) bytes)
    ∙ and_each (λ b. low_of b + 127) (λ b. esc_of b + 127) (λ b less. omega (arith, low_le b)) (λ b less. omega (arith, esc_lt b)) bytes h in
    same_each (λ b. bit_and (bit_or (both_of b) (end_of b)) 128) (λ _. 128)
    (λ b less. omega (arith, and_le_r (bit_or (both_of b) (end_of b)) 128)) (const_lt 128 (omega arith)) is_plain
    (plain_where (λ b. bit_and (bit_or (both_of b) (end_of b)) 128) (λ _. 128) (λ i. absurd (omega (arith, i))) (λ i. absurd (omega (arith, i)))) bytes h
    (sym (two bit_and (two bit_or sums ends_each ∙ or_each both_of end_of both_lt end_lt bytes h) all128
    ∙ and_each (λ b. bit_or (both_of b) (end_of b)) (λ _. 128) (λ b less. or_lt 8 (both_of b) (end_of b) (both_lt b less) (end_lt b less))
    (const_lt 128 (omega arith)) bytes h)
    ∙ e ∙ all128)
  where
    two : (op : ℕ → ℕ → ℕ) → {a b c d : ℕ} → a ≡ b → c ≡ d → op a c ≡ op b d
    two op e f = cc

-- the eight bytes after the first ones
pub eight_more : (bytes word : List ℕ) (n : ℕ) → PlainUntil bytes n → IsFirstChunk (take (length bytes - n) (drop n bytes)) word 8
    → list_all is_plain word ≡ true → PlainUntil bytes (n + 8)
eight_more bytes word n until chunk e =
    let is : take 8 (drop n bytes) ≡ word = ap (take 8) (sym (take_rest bytes n)) ∙ sym chunk.same in
    record {
      within = omega (arith, until.within, chunk.enough, ap length (take_rest bytes n), length-drop n bytes);
      plain =
          ap (list_all is_plain) (take-add n 8 bytes) ∙ list_all-append is_plain (take n bytes) (take 8 (drop n bytes))
          ∙ rw (until.plain, is, e) refl;
    }
