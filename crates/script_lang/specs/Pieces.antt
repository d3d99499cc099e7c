-- The pieces of a script. A piece starts at the start of the text, where a directive begins, and after a directive. It ends
-- where the next one starts.
use Rattle.std.specs.Prelude.{◌≤◌, ℕ, ◌+◌, ◌-◌, ◌==◌, Bool, ◌||◌, List, length, min, map, filter, if◌then◌else◌}
use Rattle.script_lang.specs.declared.piece.FoundOf.{FoundOf}
use Rattle.script_lang.specs.declared.piece.PieceOf.{PieceOf}
use Rattle.script_lang.specs.declared.piece.PieceOf.TheVariants.{Text, Include, Call}
use Rattle.script_lang.specs.declared.function.Function.{Function}
use Rattle.script_lang.specs.Functions.{function_named}
use Rattle.script_lang.specs.Places.{places, first_place}
use Rattle.script_lang.specs.Directives.{is_directive_mark, begins, ends, line_end, directive}

-- a piece starts at p
abbrev pub starts : List ℕ → ℕ → Bool
starts text p = (p == 0) || begins text p || ends text p

-- the text run from p on ends at the next `%!`, or at the end of the text
abbrev pub run_end : List ℕ → ℕ → ℕ
run_end text p = first_place (is_directive_mark text) p (length text)

-- the piece from p on: a directive if `%!` is there, otherwise the rest of the text run
abbrev pub piece_by : {F : Type 0} → (List ℕ → F) → List ℕ → ℕ → FoundOf F
piece_by named text p =
    if is_directive_mark text p then record { piece = directive named text p; next = min (line_end text (p + 2) + 1) (length text) }
    else record { piece = Text p (run_end text p - p); next = run_end text p }

-- the part that a piece names is within the first n bytes
abbrev pub LiesWithin : {F : Type 0} → ℕ → PieceOf F → Type 0
LiesWithin n (Text at len) = at + len ≤ n
LiesWithin n (Include at len) = at + len ≤ n
LiesWithin n (Call function at len) = at + len ≤ n

-- the pieces from offset p on; the first is the rest of the piece that p is in
abbrev pub pieces_by : {F : Type 0} → (List ℕ → F) → List ℕ → ℕ → List (FoundOf F)
pieces_by named text p = map (piece_by named text) (filter (λ q. (q == p) || starts text q) (places p (length text)))

-- For the functions of uIP: the piece from offset p on, those from there on, and all pieces of a script.
abbrev pub piece_at : List ℕ → ℕ → FoundOf Function
piece_at text p = piece_by function_named text p

abbrev pub pieces_from : List ℕ → ℕ → List (FoundOf Function)
pieces_from text p = pieces_by function_named text p

abbrev pub pieces : List ℕ → List (FoundOf Function)
pieces text = pieces_from text 0
