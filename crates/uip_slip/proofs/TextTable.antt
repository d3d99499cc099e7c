-- The table of the texts of all bytes.
use Rattle.uip_slip.proofs.Prelude.{◌≡◌, ℕ, ◌/◌, ◌%◌, ◌<◌, ◌≤◌, Bool, true, false, cond, eqb, [], ◌∷◌, map, get_or, refl, ap, ◌∙◌, arith}
use Rattle.uip_slip.proofs.Prelude.{range_with_len, get_or-map-range_with_len, escaped_byte, TEXTS}

-- the text of a byte as one number, its first byte lowest
abbrev pub text_number : ℕ → ℕ
text_number b = cond (eqb b 192) 56539 (cond (eqb b 219) 56795 b)

all_texts : TEXTS ≡ map text_number (range_with_len 0 256)
all_texts = refl

pub text_at : (b : ℕ) → b < 256 → get_or TEXTS b 0 ≡ text_number b
text_at b h = ap (λ l. get_or l b 0) all_texts ∙ get_or-map-range_with_len text_number 0 256 b b 0 h (omega arith)

one_byte : (b : ℕ) (e s : Bool) → cond e 56539 (cond s 56795 b) < 256
    → cond e (219 ∷ 220 ∷ []) (cond s (219 ∷ 221 ∷ []) (b ∷ [])) ≡ cond e 56539 (cond s 56795 b) ∷ []
one_byte b true s h = absurd (omega arith)
one_byte b false true h = absurd (omega arith)
one_byte b false false h = refl

pub one : (b : ℕ) → text_number b < 256 → escaped_byte b ≡ text_number b ∷ []
one b h = one_byte b (eqb b 192) (eqb b 219) h

two_bytes : (b : ℕ) (e s : Bool) → b < 256 → 256 ≤ cond e 56539 (cond s 56795 b)
    → cond e (219 ∷ 220 ∷ []) (cond s (219 ∷ 221 ∷ []) (b ∷ []))
    ≡ (cond e 56539 (cond s 56795 b) % 256) ∷ (cond e 56539 (cond s 56795 b) / 256) ∷ []
two_bytes b true s small h = refl
two_bytes b false true small h = refl
two_bytes b false false small h = absurd (omega arith)

pub two : (b : ℕ) → b < 256 → 256 ≤ text_number b → escaped_byte b ≡ (text_number b % 256) ∷ (text_number b / 256) ∷ []
two b small h = two_bytes b (eqb b 192) (eqb b 219) small h
