-- How long generated text is.
-- [add: function] Function: the greatest length of its text.
-- [add: state] State: the length of its name.
use Rattle.std.specs.List.{All, concat}
use Rattle.std.proofs.Common.{◌≡◌, ℕ, ◌+◌, ◌-◌, ◌*◌, ◌%◌, ◌^◌, ◌<◌, ◌≤◌, Bool, true, false, List, [], ◌∷◌, length, decimal}
use Rattle.std.proofs.Common.{replicate, flat_map, slice_index, refl, ap, ◌∙◌, arith, length-append, lit<, lit≤}
use Rattle.std.proofs.lemmas.Fmt.{decimal_by_steps, length-decimal-le}
use Rattle.std.proofs.lemmas.List.{length-replicate}
use Rattle.std.proofs.lemmas.List.Elements.{All-get_or, All-head, All-tail}
use Rattle.app_events.specs.Prelude.{IsByte, IsU32, IsRow}
use Rattle.app_events.specs.declared.row.Row.{Row}
use Rattle.app_events.specs.declared.state.State.{State}
use Rattle.app_events.specs.declared.state.State.TheVariants.{Closed, SynRcvd, Established, CloseWait}
use Rattle.app_events.specs.declared.state.State.TheVariants.{FinWait1, FinWait2, Closing, TimeWait, LastAck}
use Rattle.script_lang.specs.declared.function.Function.TheVariants.{FileStats, TcpConnections, NetStats, Ticks, Unknown}
use Rattle.generators.specs.Short.{TextsAreShort}
use Rattle.generators.specs.Text.{in_ten_places, counter_line, row_parts, row_text, state_name, waiting_mark}

pub in_ten : (n : ℕ) → n < 4294967296 → length (in_ten_places n) ≡ 10
in_ten n h =
    let short : length (decimal n) ≤ 10 = length-decimal-le 10 n (lit< tt) (omega arith) (omega arith) in
    let spaces : length (replicate {A = ℕ} (10 - length (decimal n)) 32) ≡ 10 - length (decimal n) =
    length-replicate {A = ℕ} (10 - length (decimal n)) 32 in
    omega (arith, length-append (replicate (10 - length (decimal n)) 32) (decimal n), spaces)

pub line_long : (n : ℕ) → n < 4294967296 → length (counter_line n) ≡ 11
line_long n h = omega (arith, length-append (in_ten_places n) (10 ∷ []), in_ten n h)

counters_long : (ns : List ℕ) → All IsU32 ns → length (flat_map counter_line ns) ≡ 11 * length ns
counters_long [] all = refl
counters_long (n ∷ ns) all =
    let one : length (counter_line n) ≡ 11 = line_long n (All-head IsU32 n ns all) in
    omega (arith, length-append (counter_line n) (flat_map counter_line ns), one, counters_long ns (All-tail IsU32 n ns all))

-- a number of two digits or more, and of three or more
digits_least : (n : ℕ) → n < 2 ^ 64 → (0 < length (decimal n)) × (10 ≤ n → 2 ≤ length (decimal n)) × (100 ≤ n → 3 ≤ length (decimal n))
digits_least =
    decimal_by_steps (λ m ds. (0 < length ds) × (10 ≤ m → 2 ≤ length ds) × (100 ≤ m → 3 ≤ length ds))
    (λ m small. (omega arith, λ h. omega (arith, small, h), λ h. omega (arith, small, h)))
    (λ m ds large more.
    let long = length-append ds ((48 + m % 10) ∷ []) in (
      omega (arith, long),
      λ h. omega (arith, long, more.0),
      λ h. let two = more.1 (omega (arith, h)) in omega (arith, long, two),
    ))

pub one_digit : (n : ℕ) → n < 10 → 1 ≡ length (decimal n)
one_digit n h =
    let some = digits_least n (omega (arith, h)) in
    omega (arith, some.0, length-decimal-le 1 n (lit< tt) (omega (arith, h)) (omega (arith, h)))

pub two_digits : (n : ℕ) → 10 ≤ n → n < 100 → 2 ≡ length (decimal n)
two_digits n l h =
    let some = digits_least n (omega (arith, h)) in
    omega (arith, some.1 l, length-decimal-le 2 n (lit< tt) (omega (arith, h)) (omega (arith, h)))

pub three_digits : (n : ℕ) → 100 ≤ n → n < 1000 → 3 ≡ length (decimal n)
three_digits n l h =
    let some = digits_least n (omega (arith, h)) in
    omega (arith, some.2 l, length-decimal-le 3 n (lit< tt) (omega (arith, h)) (omega (arith, h)))

abbrev total : List (List ℕ) → ℕ
total [] = 0
total (p ∷ parts) = length p + total parts

concat_long : (parts : List (List ℕ)) → length (concat parts) ≡ total parts
concat_long [] = refl
concat_long (p ∷ parts) = length-append p (concat parts) ∙ ap (λ n. length p + n) (concat_long parts)

name_short : (s : State) → length (state_name s) ≤ 11
name_short Closed = lit≤ tt
name_short SynRcvd = lit≤ tt
name_short Established = lit≤ tt
name_short CloseWait = lit≤ tt
name_short FinWait1 = lit≤ tt
name_short FinWait2 = lit≤ tt
name_short Closing = lit≤ tt
name_short TimeWait = lit≤ tt
name_short LastAck = lit≤ tt

mark_short : (b : Bool) → length (waiting_mark b) ≤ 1
mark_short true = lit≤ tt
mark_short false = lit≤ tt

mark_long : (b : Bool) → length (waiting_mark b) ≡ 1
mark_long true = refl
mark_long false = refl

-- what is the same in each row, and what is not
pub row_long : (row : Row) → length (row_text row)
    ≡ 70 + length (decimal row.slot) + length (decimal (slice_index row.peer.0 0))
    + length (decimal (slice_index row.peer.0 1)) + length (decimal (slice_index row.peer.0 2))
    + length (decimal (slice_index row.peer.0 3)) + length (decimal row.port.0)
    + length (state_name row.state) + length (decimal row.tries) + length (decimal row.count)
unfolding row_parts
row_long row = concat_long (row_parts row) ∙ omega (arith, mark_long row.waiting)

byte_short : (n : ℕ) → n < 256 → length (decimal n) ≤ 3
byte_short n h = length-decimal-le 3 n (lit< tt) (omega arith) (omega arith)

digit_short : (n : ℕ) → n < 10 → length (decimal n) ≤ 1
digit_short n h = length-decimal-le 1 n (lit< tt) (omega arith) (omega arith)

quad_short : (bytes : List ℕ) (k : ℕ) → length bytes ≡ 4 → All IsByte bytes → k < 4 → length (decimal (slice_index bytes k)) ≤ 3
quad_short bytes k four all h = byte_short (slice_index bytes k) (All-get_or IsByte bytes k 0 (omega arith) all)

row_short : (row : Row) → IsRow row → length (row_text row) ≤ 103
unfolding row_parts
row_short row r =
    let slot : length (decimal row.slot) ≤ 1 = digit_short row.slot r.slot in
    let tries : length (decimal row.tries) ≤ 1 = digit_short row.tries r.tries in
    let counted : length (decimal row.count) ≤ 3 = byte_short row.count r.count in
    let port : length (decimal row.port.0) ≤ 5 = length-decimal-le 5 row.port.0 (lit< tt) (omega (arith, r.port)) (omega (arith, r.port)) in
    let a = quad_short row.peer.0 0 r.peer.four r.peer.all_bytes (lit< tt) in
    let b = quad_short row.peer.0 1 r.peer.four r.peer.all_bytes (lit< tt) in
    let d = quad_short row.peer.0 2 r.peer.four r.peer.all_bytes (lit< tt) in
    let e = quad_short row.peer.0 3 r.peer.four r.peer.all_bytes (lit< tt) in
    omega (arith, concat_long (row_parts row), slot, tries, counted, port, a, b, d, e, name_short row.state, mark_short row.waiting)

rows_short : (rows : List Row) → All IsRow rows → length (flat_map row_text rows) ≤ 103 * length rows
rows_short [] all = lit≤ tt
rows_short (row ∷ rows) all =
    omega (
      arith,
      length-append (row_text row) (flat_map row_text rows),
      row_short row (All-head IsRow row rows all),
      rows_short rows (All-tail IsRow row rows all),
    )

pub texts_short : TextsAreShort
texts_short FileStats hits now word ok = omega (arith, in_ten hits word)
texts_short TcpConnections hits now word ok = omega (arith, rows_short now.rows ok.rows, ok.slots)
texts_short NetStats hits now word ok = omega (arith, counters_long now.net ok.counters, ok.twenty)
texts_short Ticks hits now word ok = omega (arith, in_ten now.ticks ok.ticks)
texts_short Unknown hits now word ok = lit≤ tt
