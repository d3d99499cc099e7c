-- The option for the maximum segment size in a received segment (RFC 793, section 3.1; RFC 1122, section 4.2.2.5).
use Rattle.std.specs.Prelude.{ℕ, zero, suc, ◌-◌, ◌==◌, ◌&&◌, nat_le, if◌then◌else◌, Bool, List}
use Rattle.std.specs.Prelude.{[], ◌∷◌, length, slice_index, Option, Some, None, option_and_then}
use Rattle.uip_wire.specs.Prelude.{word_at}

-- An option of this kind, followed by these bytes, is the one for the maximum segment size: kind 2, length 4, and within the header.
abbrev pub is_mss : ℕ → List ℕ → Bool
is_mss kind rest = kind == 2 && nat_le 3 (length rest) && slice_index rest 0 == 4

-- It has a length, which is at least 2 and ends within the header.
abbrev pub is_inside : List ℕ → Bool
is_inside rest = nat_le 1 (length rest) && nat_le 2 (slice_index rest 0) && nat_le (slice_index rest 0 - 1) (length rest)

-- The number of bytes of another option after its kind: kind 0 ends the options, kind 1 is one byte, and any other has its length.
abbrev pub trailing_bytes : ℕ → List ℕ → Option ℕ
trailing_bytes kind rest =
    if kind == 0 then None
    else if kind == 1 then Some 0
    else if is_inside rest then Some (slice_index rest 0 - 1)
    else None

-- A value of 0 counts as none.
abbrev pub value_of : ℕ → Option ℕ
value_of mss = if mss == 0 then None else Some mss

-- The value of the first such option, where `skip` bytes still belong to another one.
abbrev pub mss_after : ℕ → List ℕ → Option ℕ
mss_after skip [] = None
mss_after (suc skip) (byte ∷ rest) = mss_after skip rest
mss_after zero (kind ∷ rest) =
    if is_mss kind rest then value_of (word_at rest 1)
    else option_and_then (λ n. mss_after n rest) (trailing_bytes kind rest)

abbrev pub mss_in : List ℕ → Option ℕ
mss_in options = mss_after 0 options
