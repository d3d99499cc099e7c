-- How the bytes of a value are escaped in a page.
use Rattle.std.specs.Prelude.{ℕ, ◌+◌, ◌/◌, ◌%◌, ◌==◌, List, [], ◌∷◌, ◌++◌, codes, flat_map, nat_lt, if◌then◌else◌}
use Rattle.device_values.specs.declared.spelling.Spelling.{Spelling}
use Rattle.device_values.specs.declared.spelling.Spelling.TheVariants as spelling

abbrev pub hex_digit : ℕ → ℕ
hex_digit n = if nat_lt n 10 then 48 + n else 87 + n

-- In a string of JSON a quotation mark, a reverse solidus and each byte below 32 are escaped (RFC 8259, section 7).
abbrev pub json_byte : ℕ → List ℕ
json_byte b =
    if b == 34 then codes "\\\""
    else if b == 92 then codes "\\\\"
    else if nat_lt b 32 then codes "\\u00" ++ hex_digit (b / 16) ∷ hex_digit (b % 16) ∷ []
    else b ∷ []

-- In HTML an ampersand, the two angle brackets and the two quotes are character references.
abbrev pub html_byte : ℕ → List ℕ
html_byte b =
    if b == 38 then codes "&amp;"
    else if b == 60 then codes "&lt;"
    else if b == 62 then codes "&gt;"
    else if b == 34 then codes "&quot;"
    else if b == 39 then codes "&#39;"
    else b ∷ []

abbrev pub spelled : Spelling → List ℕ → List ℕ
spelled spelling.Plain text = text
spelled spelling.Json text = flat_map json_byte text
spelled spelling.Html text = flat_map html_byte text
