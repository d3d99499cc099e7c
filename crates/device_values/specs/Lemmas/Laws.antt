-- The text of a word of a device's script is short, and consists of bytes.
use Rattle.std.proofs.Common.{◌≡◌, ℕ, ◌+◌, ◌*◌, ◌/◌, ◌%◌, ◌<◌, ◌≤◌, ◌==◌, Bool, true, false, List, [], ◌∷◌, ◌++◌, length, map, min}
use Rattle.std.proofs.Common.{take, flat_map, refl, arith, length-append, length-take, if◌then◌else◌, Option, Some, None, lit≤}
use Rattle.std.specs.Prelude.{All, codes, nat_lt, slice_index_or, slice_range}
use Rattle.std.specs.Option.{option_map_or}
use Rattle.std.proofs.lemmas.List.{length-map}
use Rattle.std.proofs.lemmas.Bool.{ltb-true}
use Rattle.std.proofs.lemmas.List.Elements.{All-nil, All-cons, All-append, All-head, All-tail}
use Rattle.app_events.specs.Prelude.{IsByte}
use Rattle.uip_wire.specs.Prelude.{numeral}
use Rattle.generators.specs.Prelude.{AreBytes, AreShort, literal_bytes, either_bytes, texts_bytes, texts_short}
use Rattle.device_values.specs.declared.spelling.Spelling.{Spelling}
use Rattle.device_values.specs.declared.spelling.Spelling.TheVariants.{Plain, Json, Html}
use Rattle.device_values.specs.declared.word.Word.TheVariants as word
use Rattle.device_values.specs.Spellings.{hex_digit, html_byte, json_byte, spelled}
use Rattle.device_values.specs.Values.{value_named, value_of}
use Rattle.device_values.specs.Words.{word_call_text, words}

-- ---- a value

pub value_short : (own : List ℕ) (n : ℕ) → length (value_of own n) ≤ 32
value_short own n =
    let kept : List ℕ = take (min 32 (slice_index_or own (33 * n) 0)) (slice_range own (33 * n + 1) (33 * n + 33)) in
    omega (
      arith,
      length-map kept (λ b. b % 256),
      length-take (min 32 (slice_index_or own (33 * n) 0)) (slice_range own (33 * n + 1) (33 * n + 33)),
    )

low_bytes : (xs : List ℕ) → All IsByte (map (λ b. b % 256) xs)
low_bytes [] = All-nil IsByte
low_bytes (x ∷ xs) = All-cons IsByte (x % 256) (map (λ b. b % 256) xs) (omega arith) (low_bytes xs)

named_short : (own : List ℕ) (number : Option ℕ) → length (option_map_or (λ n. if nat_lt n 16 then value_of own n else []) number []) ≤ 32
named_short own None = lit≤ tt
named_short own (Some n) = by_test (nat_lt n 16)
  where
    by_test : (b : Bool) → length (if b then value_of own n else []) ≤ 32
    by_test true = value_short own n
    by_test false = lit≤ tt

named_bytes : (own : List ℕ) (number : Option ℕ) → All IsByte (option_map_or (λ n. if nat_lt n 16 then value_of own n else []) number [])
named_bytes own None = All-nil IsByte
named_bytes own (Some n) =
    either_bytes (nat_lt n 16) (value_of own n) []
    (low_bytes (take (min 32 (slice_index_or own (33 * n) 0)) (slice_range own (33 * n + 1) (33 * n + 33)))) (All-nil IsByte)

-- ---- a byte that is spelled

either_short : (b : Bool) (xs ys : List ℕ) (n : ℕ) → length xs ≤ n → length ys ≤ n → length (if b then xs else ys) ≤ n
either_short true xs ys n p q = p
either_short false xs ys n p q = q

json_short : (b : ℕ) → length (json_byte b) ≤ 6
json_short b =
    either_short (b == 34) (codes "\\\"") _ 6 (lit≤ tt)
    (either_short (b == 92) (codes "\\\\") _ 6 (lit≤ tt)
    (either_short (nat_lt b 32) (codes "\\u00" ++ hex_digit (b / 16) ∷ hex_digit (b % 16) ∷ []) (b ∷ []) 6 (lit≤ tt) (lit≤ tt)))

html_short : (b : ℕ) → length (html_byte b) ≤ 6
html_short b =
    either_short (b == 38) (codes "&amp;") _ 6 (lit≤ tt)
    (either_short (b == 60) (codes "&lt;") _ 6 (lit≤ tt)
    (either_short (b == 62) (codes "&gt;") _ 6 (lit≤ tt)
    (either_short (b == 34) (codes "&quot;") _ 6 (lit≤ tt)
    (either_short (b == 39) (codes "&#39;") (b ∷ []) 6 (lit≤ tt) (lit≤ tt)))))

pub all_short : (f : ℕ → List ℕ) → ((b : ℕ) → length (f b) ≤ 6) → (text : List ℕ) → length (flat_map f text) ≤ 6 * length text
all_short f each [] = lit≤ tt
all_short f each (b ∷ text) = omega (arith, length-append (f b) (flat_map f text), each b, all_short f each text)

hex_byte : (n : ℕ) → n < 16 → IsByte (hex_digit n)
hex_byte n h = by_size (nat_lt n 10)
  where
    by_size : (b : Bool) → IsByte (if b then 48 + n else 87 + n)
    by_size true = omega (arith, h)
    by_size false = omega (arith, h)

small_bytes : (small : Bool) (b : ℕ) → nat_lt b 32 ≡ small → IsByte b
    → All IsByte (if small then codes "\\u00" ++ hex_digit (b / 16) ∷ hex_digit (b % 16) ∷ [] else b ∷ [])
small_bytes true b e is =
    let lt = ltb-true b 32 e in
    All-append IsByte (codes "\\u00") (hex_digit (b / 16) ∷ hex_digit (b % 16) ∷ []) (literal_bytes (codes "\\u00") refl)
    (All-cons IsByte (hex_digit (b / 16)) (hex_digit (b % 16) ∷ []) (hex_byte (b / 16) (omega (arith, lt)))
    (All-cons IsByte (hex_digit (b % 16)) [] (hex_byte (b % 16) (omega arith)) (All-nil IsByte)))
small_bytes false b e is = All-cons IsByte b [] is (All-nil IsByte)

json_bytes : (b : ℕ) → IsByte b → All IsByte (json_byte b)
json_bytes b is =
    either_bytes (b == 34) (codes "\\\"") _ (literal_bytes (codes "\\\"") refl)
    (either_bytes (b == 92) (codes "\\\\") _ (literal_bytes (codes "\\\\") refl) (small_bytes (nat_lt b 32) b refl is))

html_bytes : (b : ℕ) → IsByte b → All IsByte (html_byte b)
html_bytes b is =
    either_bytes (b == 38) (codes "&amp;") _ (literal_bytes (codes "&amp;") refl)
    (either_bytes (b == 60) (codes "&lt;") _ (literal_bytes (codes "&lt;") refl)
    (either_bytes (b == 62) (codes "&gt;") _ (literal_bytes (codes "&gt;") refl)
    (either_bytes (b == 34) (codes "&quot;") _ (literal_bytes (codes "&quot;") refl)
    (either_bytes (b == 39) (codes "&#39;") (b ∷ []) (literal_bytes (codes "&#39;") refl) (All-cons IsByte b [] is (All-nil IsByte))))))

all_bytes : (f : ℕ → List ℕ) → ((b : ℕ) → IsByte b → All IsByte (f b)) → (text : List ℕ) → All IsByte text → All IsByte (flat_map f text)
all_bytes f each [] all = All-nil IsByte
all_bytes f each (b ∷ text) all =
    All-append IsByte (f b) (flat_map f text) (each b (All-head IsByte b text all)) (all_bytes f each text (All-tail IsByte b text all))

spelled_bytes : (spelling : Spelling) (text : List ℕ) → All IsByte text → All IsByte (spelled spelling text)
spelled_bytes Plain text all = all
spelled_bytes Json text all = all_bytes json_byte json_bytes text all
spelled_bytes Html text all = all_bytes html_byte html_bytes text all

pub json_all_short : (text : List ℕ) → length (flat_map json_byte text) ≤ 6 * length text
json_all_short text = all_short json_byte json_short text

pub html_all_short : (text : List ℕ) → length (flat_map html_byte text) ≤ 6 * length text
html_all_short text = all_short html_byte html_short text

-- ---- the laws

pub words_short : AreShort words
words_short (word.Uip function) argument hits own now word is_now = texts_short function hits now word is_now
words_short (word.Value Plain) argument hits own now word is_now = named_short own (numeral argument)
words_short (word.Value Json) argument hits own now word is_now =
    omega (arith, json_all_short (value_named own argument), named_short own (numeral argument))
words_short (word.Value Html) argument hits own now word is_now =
    omega (arith, html_all_short (value_named own argument), named_short own (numeral argument))

pub words_bytes : AreBytes word_call_text
words_bytes (word.Uip function) argument hits own now = texts_bytes function argument hits [] now
words_bytes (word.Value spelling) argument hits own now =
    spelled_bytes spelling (value_named own argument) (named_bytes own (numeral argument))
