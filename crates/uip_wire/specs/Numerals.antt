-- Numbers as decimal digits.
use Rattle.std.specs.Prelude.{◌≡◌, ◌<◌, ◌^◌, ◌==◌, ◌&&◌, ◌↔◌, ℕ, nat_lt, if◌then◌else◌, Bool}
use Rattle.std.specs.Prelude.{true, false, List, [], ◌∷◌, Option, None, Some, decimal}
use Rattle.std.specs.Char.{is_ascii_digit}
use Rattle.std.specs.List.{list_all}
use Rattle.std.specs.Str.Parse.{digits_value}

-- Nothing, or a zero before something.
abbrev pub leads_badly : List ℕ → Bool
leads_badly [] = true
leads_badly (c ∷ []) = false
leads_badly (c ∷ d ∷ rest) = c == 48

-- Decimal digits without a leading zero; 0 itself is allowed.
abbrev pub is_numeral : List ℕ → Bool
is_numeral text = if leads_badly text then false else list_all is_ascii_digit text

-- The number below 2^64 whose numeral the text is.
abbrev pub numeral : List ℕ → Option ℕ
numeral text = if is_numeral text && nat_lt (digits_value 10 text) (2 ^ 64) then Some (digits_value 10 text) else None

-- A text is the numeral of exactly the number that is printed as that text.
abbrev pub NumeralsPrint : Type 0
NumeralsPrint = (text : List ℕ) (n : ℕ) → n < 2 ^ 64 → (numeral text ≡ Some n) ↔ (text ≡ decimal n)
