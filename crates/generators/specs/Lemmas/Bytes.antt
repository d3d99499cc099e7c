-- Generated text is bytes.
-- [add: function] Function: its text is bytes.
-- [add: state] State: its name is bytes.
use Rattle.std.specs.List.{All, list_all, concat}
use Rattle.std.proofs.Common.{replicate, decimal, flat_map, slice_index, refl, arith, if◌then◌else◌, lit<}
use Rattle.std.specs.Prelude.{◌≡◌, ◌+◌, ◌-◌, ◌/◌, ◌%◌, ◌==◌, ◌∷◌, [], Bool, codes, false, length, List, nat_lt, suc, true, zero, ℕ}
use Rattle.std.specs.Fmt.{digits, digits_onto, digit_glyph}
use Rattle.std.proofs.lemmas.Bool.{and_parts, ltb-true}
use Rattle.std.proofs.lemmas.List.Elements.{All-nil, All-cons, All-append, All-replicate}
use Rattle.app_events.specs.Prelude.{IsByte}
use Rattle.app_events.specs.declared.now.Now.{Now}
use Rattle.app_events.specs.declared.row.Row.{Row}
use Rattle.app_events.specs.declared.state.State.{State}
use Rattle.app_events.specs.declared.state.State.TheVariants.{Closed, SynRcvd, Established, CloseWait}
use Rattle.app_events.specs.declared.state.State.TheVariants.{FinWait1, FinWait2, Closing, TimeWait, LastAck}
use Rattle.generators.specs.declared.capture.Capture.{Capture}
use Rattle.generators.specs.declared.capture.Capture.TheVariants as capture
use Rattle.generators.specs.Captures.{capture_of}
use Rattle.generators.specs.ScriptFunctions.{AreBytes, uip_call_text}
use Rattle.generators.specs.Text.{in_ten_places, counter_line, state_name, row_parts, row_text, capture_text}

-- ---- texts that are written out

abbrev are_small : List ℕ → Bool
are_small xs = list_all (λ x. nat_lt x 256) xs

pub literal_bytes : (xs : List ℕ) → are_small xs ≡ true → All IsByte xs
literal_bytes [] e = All-nil IsByte
literal_bytes (x ∷ xs) e =
    let both = and_parts (nat_lt x 256) (are_small xs) e in
    All-cons IsByte x xs (ltb-true x 256 both.0) (literal_bytes xs both.1)

pub either_bytes : (b : Bool) (xs ys : List ℕ) → All IsByte xs → All IsByte ys → All IsByte (if b then xs else ys)
either_bytes true xs ys p q = p
either_bytes false xs ys p q = q

-- ---- generated text

glyph_byte : (n : ℕ) → IsByte (digit_glyph false (n % 10))
glyph_byte n = by_size (nat_lt (n % 10) 10) refl
  where
    by_size : (b : Bool) → nat_lt (n % 10) 10 ≡ b → IsByte (if b then 48 + n % 10 else (if false then 55 + n % 10 else 87 + n % 10))
    by_size true e = omega arith
    by_size false e = omega arith

digits_bytes : (k n : ℕ) (more : List ℕ) → All IsByte more → All IsByte (digits_onto k 10 false n more)
digits_bytes zero n more all = all
digits_bytes (suc k) n more all =
    let next : List ℕ = digit_glyph false (n % 10) ∷ more in
    let here : All IsByte next = All-cons IsByte (digit_glyph false (n % 10)) more (glyph_byte n) all in
    either_bytes (n / 10 == 0) next (digits_onto k 10 false (n / 10) next) here (digits_bytes k (n / 10) next here)

decimal_bytes : (n : ℕ) → All IsByte (decimal n)
unfolding digits
decimal_bytes n = digits_bytes 64 n [] (All-nil IsByte)

places_bytes : (n : ℕ) → All IsByte (in_ten_places n)
places_bytes n =
    All-append IsByte (replicate (10 - length (decimal n)) 32) (decimal n)
    (All-replicate IsByte (10 - length (decimal n)) 32 (lit< tt)) (decimal_bytes n)

counters_bytes : (ns : List ℕ) → All IsByte (flat_map counter_line ns)
counters_bytes [] = All-nil IsByte
counters_bytes (n ∷ ns) =
    All-append IsByte (counter_line n) (flat_map counter_line ns)
    (All-append IsByte (in_ten_places n) (10 ∷ []) (places_bytes n) (literal_bytes (10 ∷ []) refl)) (counters_bytes ns)

state_bytes : (state : State) → All IsByte (state_name state)
state_bytes Closed = literal_bytes (codes "CLOSED") refl
state_bytes SynRcvd = literal_bytes (codes "SYN-RCVD") refl
state_bytes Established = literal_bytes (codes "ESTABLISHED") refl
state_bytes CloseWait = literal_bytes (codes "CLOSE-WAIT") refl
state_bytes FinWait1 = literal_bytes (codes "FIN-WAIT-1") refl
state_bytes FinWait2 = literal_bytes (codes "FIN-WAIT-2") refl
state_bytes Closing = literal_bytes (codes "CLOSING") refl
state_bytes TimeWait = literal_bytes (codes "TIME-WAIT") refl
state_bytes LastAck = literal_bytes (codes "LAST-ACK") refl

abbrev PartsAreBytes : List (List ℕ) → Type 0
PartsAreBytes [] = Unit {0}
PartsAreBytes (part ∷ parts) = All IsByte part × PartsAreBytes parts

concat_bytes : (parts : List (List ℕ)) → PartsAreBytes parts → All IsByte (concat parts)
concat_bytes [] all = All-nil IsByte
concat_bytes (part ∷ parts) all = All-append IsByte part (concat parts) all.0 (concat_bytes parts all.1)

row_bytes : (row : Row) → All IsByte (row_text row)
unfolding row_parts
row_bytes row =
    let cell : All IsByte (codes "</td><td>") = literal_bytes (codes "</td><td>") refl in
    let dot : All IsByte (codes ".") = literal_bytes (codes ".") refl in
    let peer = λ (k : ℕ). decimal_bytes (slice_index row.peer.0 k) in
    concat_bytes (row_parts row) (
      literal_bytes (codes "<tr><td>") refl,
      (
        decimal_bytes row.slot,
        (
          cell,
          (
            peer 0,
            (
              dot,
              (
                peer 1,
                (
                  dot,
                  (
                    peer 2,
                    (
                      dot,
                      (
                        peer 3,
                        (
                          literal_bytes (codes ":") refl,
                          (
                            decimal_bytes row.port.0,
                            (
                              cell,
                              (
                                state_bytes row.state,
                                (
                                  cell,
                                  (
                                    decimal_bytes row.tries,
                                    (
                                      cell,
                                      (
                                        decimal_bytes row.count,
                                        (
                                          cell,
                                          (
                                            either_bytes row.waiting (codes "*") (codes " ")
                                                (literal_bytes (codes "*") refl) (literal_bytes (codes " ") refl),
                                            (literal_bytes (codes "</td></tr>\r\n") refl, tt),
                                          ),
                                        ),
                                      ),
                                    ),
                                  ),
                                ),
                              ),
                            ),
                          ),
                        ),
                      ),
                    ),
                  ),
                ),
              ),
            ),
          ),
        ),
      ),
    )

rows_bytes : (rows : List Row) → All IsByte (flat_map row_text rows)
rows_bytes [] = All-nil IsByte
rows_bytes (row ∷ rows) = All-append IsByte (row_text row) (flat_map row_text rows) (row_bytes row) (rows_bytes rows)

pub capture_bytes : (record_of : Capture) → All IsByte (capture_text record_of)
capture_bytes capture.Empty = All-nil IsByte
capture_bytes (capture.Hits hits) = places_bytes hits
capture_bytes (capture.Ticks ticks) = places_bytes ticks
capture_bytes (capture.Net counters) = counters_bytes counters
capture_bytes (capture.Rows rows) = rows_bytes rows

pub texts_bytes : AreBytes uip_call_text
texts_bytes function argument hits own now = capture_bytes (capture_of function hits now)
