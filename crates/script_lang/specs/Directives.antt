-- A directive begins at `%!` at any offset of a text run. It ends with the next LF, which belongs to it, or at the end of the
-- text. It is therefore within one line, and the offsets of `%!` and LF in the whole text determine which bytes are
-- directives.
use Rattle.std.specs.Prelude.{◌≡◌, ◌≤◌, ◌⊎◌, ℕ, ◌+◌, ◌-◌, Bool, ◌&&◌, not, List, length, nat_lt, slice_range, if◌then◌else◌, IsFalse}
use Rattle.std.specs.List.{list_any}
use Rattle.script_lang.specs.declared.piece.PieceOf.{PieceOf}
use Rattle.script_lang.specs.declared.piece.PieceOf.TheVariants.{Include, Call}
use Rattle.script_lang.specs.declared.words.Span.{Span}
use Rattle.script_lang.specs.Places.{places, first_place, is_byte, word_start, word_end, word}

-- `%!` is at offset p
abbrev pub is_directive_mark : List ℕ → ℕ → Bool
is_directive_mark text p = is_byte text 37 p && is_byte text 33 (p + 1)

-- a line ends with the byte at offset p
abbrev pub is_line_end : List ℕ → ℕ → Bool
is_line_end text p = is_byte text 10 p

-- a directive is open at p: `%!` is before p, and no line ends between
abbrev pub is_inside_directive : List ℕ → ℕ → Bool
is_inside_directive text p = list_any (λ q. is_directive_mark text q && not (list_any (is_line_end text) (places q p))) (places 0 p)

-- a directive begins at p
abbrev pub begins : List ℕ → ℕ → Bool
begins text p = is_directive_mark text p && not (is_inside_directive text p)

-- a directive ends with the byte before p
abbrev pub ends : List ℕ → ℕ → Bool
ends text p = nat_lt 0 p && is_line_end text (p - 1) && is_inside_directive text (p - 1)

-- p is in a text run or at its end, at the start of a directive, or at the end of the text
abbrev pub IsPlace : List ℕ → ℕ → Type 0
IsPlace text p = (p ≤ length text) × (IsFalse (is_inside_directive text p) ⊎ (p ≡ length text))

-- where the line of offset p ends: at its LF, or at the end of the text
abbrev pub line_end : List ℕ → ℕ → ℕ
line_end text p = first_place (is_line_end text) p (length text)

-- the end b of the part from a on, or the offset of the CR that is its last byte
abbrev pub before_cr : List ℕ → ℕ → ℕ → ℕ
before_cr text a b = if nat_lt a b && is_byte text 13 (b - 1) then b - 1 else b

-- the include whose name is the word
abbrev pub include : {F : Type 0} → Span → PieceOf F
include name = Include name.at name.len

-- the call whose argument is the word
abbrev pub call : {F : Type 0} → F → Span → PieceOf F
call function argument = Call function argument.at argument.len

-- The directive with the inner part from a up to before b. If that begins with `:`, it is an include, and its name is the
-- first word after the `:`. Otherwise it is a call: its function is the first word, and its argument the second.
abbrev pub directive_within : {F : Type 0} → (List ℕ → F) → List ℕ → ℕ → ℕ → PieceOf F
directive_within named text a b =
    if nat_lt a b && is_byte text 58 a then include (word text (a + 1) b)
    else call (named (slice_range text (word_start text a b) (word_end text a b))) (word text (word_end text a b) b)

-- the directive at p: its inner part is what is between `%!` and the end of the line, without a CR at its end
abbrev pub directive : {F : Type 0} → (List ℕ → F) → List ℕ → ℕ → PieceOf F
directive named text p = directive_within named text (p + 2) (before_cr text (p + 2) (line_end text (p + 2)))
