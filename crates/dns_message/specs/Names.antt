-- A domain name as a text and in a message (RFC 1035, sections 2.3.1, 3.1 and 4.1.4).
use Rattle.std.specs.Prelude.{ℕ, zero, suc, ◌==◌, ◌&&◌, ◌||◌, nat_le, nat_lt, if◌then◌else◌}
use Rattle.std.specs.Prelude.{Bool, List, [], ◌∷◌, ◌++◌, length, Option, Some, None}
use Rattle.std.specs.Char.{is_ascii_alphanumeric}
use Rattle.std.specs.List.{flat_map, list_all, slice_split}

-- The labels of a text, separated by dots.
abbrev pub labels : List ℕ → List (List ℕ)
labels text = slice_split (λ c. c == 46) text

-- Letters, digits, '-' and '_'.
abbrev pub is_label_byte : ℕ → Bool
is_label_byte c = is_ascii_alphanumeric c || c == 45 || c == 95

abbrev pub is_label : List ℕ → Bool
is_label label = nat_le 1 (length label) && nat_le (length label) 63 && list_all is_label_byte label

-- A name that can be queried: at most 64 bytes, and two or more labels.
unfoldable pub is_domain : List ℕ → Bool
is_domain text = nat_le (length text) 64 && nat_le 2 (length (labels text)) && list_all is_label (labels text)

-- A label in a message: its length and its bytes.
abbrev pub label_bytes : List ℕ → List ℕ
label_bytes label = length label ∷ label

-- A name in a message: its labels, and the empty label of the root.
abbrev pub name_bytes : List ℕ → List ℕ
name_bytes text = flat_map label_bytes (labels text) ++ 0 ∷ []

-- The bytes after the second byte of a pointer.
abbrev pub after_pointer : List ℕ → Option (List ℕ)
after_pointer [] = None
after_pointer (b ∷ rest) = Some rest

-- The bytes after the name at the start. A name is labels of 1 to 63 bytes, ended by a byte 0 or by a pointer: two bytes, the first of them
-- 192 or more. `skip` bytes still belong to a label.
abbrev pub after_the_name : ℕ → List ℕ → Option (List ℕ)
after_the_name skip [] = None
after_the_name (suc skip) (b ∷ rest) = after_the_name skip rest
after_the_name zero (b ∷ rest) =
    if b == 0 then Some rest
    else if nat_lt b 64 then after_the_name b rest
    else if nat_lt b 192 then None
    else after_pointer rest
