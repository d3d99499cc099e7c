-- The checksum of the Internet protocols (RFC 791, section 3.1; RFC 1071).
use Rattle.std.specs.Prelude.{◌≢◌, ◌<◌, ℕ, ◌+◌, ◌-◌, ◌*◌, ◌%◌, ◌==◌, if◌then◌else◌, List, [], ◌∷◌, ◌++◌}

-- The sum of the big-endian 16-bit words; an odd last byte is padded by a zero byte.
abbrev pub word_sum : List ℕ → ℕ
word_sum [] = 0
word_sum (last ∷ []) = 256 * last
word_sum (high ∷ low ∷ rest) = 256 * high + low + word_sum rest

-- A sum with its carries added back: from 1 to 65535, and 0 only for 0.
unfoldable pub folded : ℕ → ℕ
folded sum = if sum == 0 then 0 else (sum - 1) % 65535 + 1

-- The one's complement of the folded sum.
abbrev pub checksum_of : List ℕ → ℕ
checksum_of bytes = 65535 - folded (word_sum bytes)

-- Two lists of bytes of the same length that differ in exactly one byte have different checksums.
abbrev pub OneByteDetected : Type 0
OneByteDetected = (prefix back : List ℕ) (one other : ℕ) → one < 256 → other < 256 → one ≢ other
    → checksum_of (prefix ++ one ∷ back) ≢ checksum_of (prefix ++ other ∷ back)
