-- Pairs of hexadecimal digits spell bytes.
use Rattle.link_replay.proofs.Prelude.{All, IfSome, ◌≡◌, ℕ, ◌+◌, ◌*◌, ◌-◌, ◌<◌, ◌%◌, Bool, true, false, cond, ◌&&◌, List, [], ◌∷◌, length}
use Rattle.link_replay.proofs.Prelude.{Option, Some, None, Result, Ok, Err, IfOk, refl, arith, eqb, leb, and_parts, leb-true, All-cons}
use Rattle.link_replay.proofs.Prelude.{All-nil, decode_of, decode_pairs, digit_or_error, hex_digit_value, pair_value, value_at, ◌>>=◌}
use Rattle.link_replay.proofs.Prelude.{FromHexError, OddLength, IsByte}

abbrev IsDigit : ℕ → Type 0
IsDigit v = v < 16

-- a digit of a range, or another one
ranged : (low high less : ℕ) (c : ℕ) (other : Option ℕ) → high < less + 16 → IfSome other IsDigit
    → IfSome (cond (leb low c && leb c high) (Some (c - less)) other) IsDigit
ranged low high less c other room p = by_test (leb low c && leb c high)
    (λ e. let most = leb-true c high (and_parts (leb low c) (leb c high) e).1 in omega (arith, most, room))
  where
    by_test : (b : Bool) → (b ≡ true → IsDigit (c - less)) → IfSome (cond b (Some (c - less)) other) IsDigit
    by_test true q = q refl
    by_test false q = p

digit_value : (c : ℕ) → IfSome (hex_digit_value c) IsDigit
digit_value c = ranged 65 70 55 c _ (omega arith) (ranged 97 102 87 c _ (omega arith) (ranged 48 57 48 c None (omega arith) tt))

or_error : (c i : ℕ) (o : Option ℕ) → IfSome o IsDigit → IfOk (digit_or_error c i o) IsDigit
or_error c i (Some v) p = p
or_error c i None p = tt

pair_of : (h l : Result ℕ FromHexError) → IfOk h IsDigit → IfOk l IsDigit → IfOk (h >>= λ x. l >>= λ y. Ok (x * 16 + y)) IsByte
pair_of (Ok x) (Ok y) p q = omega (arith, p, q)
pair_of (Ok x) (Err e) p q = tt
pair_of (Err e) l p q = tt

pair_is_byte : (high low i : ℕ) → IfOk (pair_value high low i) IsByte
pair_is_byte high low i =
    pair_of (value_at high i) (value_at low (i + 1)) (or_error high i (hex_digit_value high) (digit_value high))
    (or_error low (i + 1) (hex_digit_value low) (digit_value low))

with_byte : (r : Result ℕ FromHexError) (s : Result (List ℕ) FromHexError) → IfOk r IsByte → IfOk s (All IsByte)
    → IfOk (r >>= λ x. s >>= λ xs. Ok (x ∷ xs)) (All IsByte)
with_byte (Ok x) (Ok xs) p q = All-cons IsByte x xs p q
with_byte (Ok x) (Err e) p q = tt
with_byte (Err e) s p q = tt

pairs_are_bytes : (i : ℕ) (text : List ℕ) → IfOk (decode_pairs i text) (All IsByte)
unfolding decode_pairs
pairs_are_bytes i [] = All-nil IsByte
pairs_are_bytes i (digit ∷ []) = tt
pairs_are_bytes i (high ∷ low ∷ rest) = with_byte (pair_value high low i) (decode_pairs (i + 2) rest) (pair_is_byte high low i) (pairs_are_bytes (i + 2) rest)

pub decoded_bytes : (text : List ℕ) → IfOk (decode_of text) (All IsByte)
decoded_bytes text = by_test (eqb (length text % 2) 1)
  where
    by_test : (b : Bool) → IfOk (cond b (Err OddLength) (decode_pairs 0 text)) (All IsByte)
    by_test true = tt
    by_test false = pairs_are_bytes 0 text
