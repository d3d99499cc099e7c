-- The sum of words before other bytes.
use Rattle.uip_wire.proofs.Prelude.{◌≡◌, ℕ, ◌+◌, ◌*◌, ◌/◌, ◌%◌, List, [], ◌∷◌, ◌++◌, length, refl, arith, word_sum, bytes_of}

abbrev pub total : List ℕ → ℕ
total [] = 0
total (w ∷ words) = w + total words

pub sum_of_words : (words rest : List ℕ) → word_sum (bytes_of words ++ rest) ≡ total words + word_sum rest
sum_of_words [] rest = omega arith
sum_of_words (w ∷ words) rest = omega (arith, sum_of_words words rest)

pub length-bytes_of : (words : List ℕ) → length (bytes_of words) ≡ 2 * length words
length-bytes_of [] = refl
length-bytes_of (w ∷ words) = omega (arith, length-bytes_of words)

-- a field that was written is read
pub same_word : (w : ℕ) → 256 * (w / 256) + w % 256 ≡ w
same_word w = omega arith

pub same_long : (n : ℕ) → 65536 * (256 * (n / 65536 / 256) + n / 65536 % 256) + (256 * (n % 65536 / 256) + n % 65536 % 256) ≡ n
same_long n = omega arith
