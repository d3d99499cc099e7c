-- The span at a thread in a script.
use Rattle.httpd.proofs.Prelude.{◌≡◌, ℕ, ◌+◌, ◌-◌, ◌<◌, ◌≤◌, Bool, true, false, ◌⊎◌, inl, inr, List, [], ◌∷◌, length, take, drop, map, min}
use Rattle.httpd.proofs.Prelude.{refl, sym, ap, subst, ◌∙◌, arith, true≢false, if◌then◌else◌, slice_range, nat_lt, ◌&&◌, not, drop-drop}
use Rattle.httpd.proofs.Prelude.{drop-take, take-take, FoundOf, PieceOf, Text, Include, Call, is_byte, word, word_start, word_end, IsPlace}
use Rattle.httpd.proofs.Prelude.{begins, is_directive_mark, is_inside_directive, line_end, before_cr, directive, piece_by, pieces_by}
use Rattle.httpd.proofs.Prelude.{run_end, found-goes, pieces_by-step, run-rest, first_place-is, run-inside, file_named, ScriptPiece}
use Rattle.httpd.proofs.Prelude.{bytes_or, piece_output, Plain, Made, Span, Body, FileReply, body, body_from, is_scripted, left_from, Fits}
use Rattle.httpd.proofs.Prelude.{IsBodyPlace, EndsCall, EndsDirective, EndsInclude, IsSpan, Sees}
use Rattle.httpd.proofs.Seeing.{IsFurther, sees_first, sees_prefix, span_along}

-- what `next_piece` returns for a piece that it found
pub record Reads {F : Type 0} (named : List ℕ → F) (script : List ℕ) (at : ℕ) (found : FoundOf F) : Type 0 where
  pub pieces : pieces_by named script at ≡ found ∷ pieces_by named script found.next
  pub after : at < found.next
  pub place : IsPlace script found.next

place_by : (script : List ℕ) (at : ℕ) → at ≤ length script → (is_inside_directive script at ≡ true → at ≡ length script) → IsPlace script at
place_by script at h between = (h, by (is_inside_directive script at) refl)
  where
    by : (b : Bool) → is_inside_directive script at ≡ b → ◌⊎◌ (is_inside_directive script at ≡ false) (at ≡ length script)
    by true e = inr (between e)
    by false e = inl e

pub is_place : {F : Type 0} (r : FileReply F) (at : ℕ) → is_scripted r.file ≡ true → IsBodyPlace r at → IsPlace (body r) at
is_place r at script is = place_by (body r) at is.within (is.between script)

between_by : (script : List ℕ) (at : ℕ) → ◌⊎◌ (is_inside_directive script at ≡ false) (at ≡ length script) → is_inside_directive script at
    ≡ true → at ≡ length script
between_by script at (inl closed) opened = absurd (true≢false (sym opened ∙ closed))
between_by script at (inr end) opened = end

pub body_place : {F : Type 0} (r : FileReply F) (at : ℕ) → IsPlace (body r) at → IsBodyPlace r at
body_place r at is = record { within = is.0; between = λ script opened. between_by (body r) at is.1 opened }

pub script_from : {F : Type 0} (r : FileReply F) (a : ℕ) → is_scripted r.file ≡ true
    → body_from r a ≡ map (λ found. piece_output r.files (body r) found.piece) (pieces_by r.functions.function_table.named (body r) a)
script_from r a e = ap (λ b. if b then map (λ found. piece_output r.files (body r) found.piece)
    (pieces_by r.functions.function_table.named (body r) a) else Plain (drop a (body r)) ∷ []) e

-- the first piece and the further ones
pub script_step : {F : Type 0} (r : FileReply F) (at : ℕ) (found : FoundOf F) → is_scripted r.file ≡ true
    → pieces_by r.functions.function_table.named (body r) at ≡ found ∷ pieces_by r.functions.function_table.named (body r) found.next
    → left_from r (Body at) ≡ piece_output r.files (body r) found.piece ∷ body_from r found.next
unfolding left_from
script_step r at found script e =
    script_from r at script
    ∙ ap (λ ps. map (λ f. piece_output r.files (body r) f.piece) ps) e
    ∙ ap (λ more. piece_output r.files (body r) found.piece ∷ more) (sym (script_from r found.next script))

pub script_end : {F : Type 0} (r : FileReply F) (at : ℕ) → is_scripted r.file ≡ true → pieces_by r.functions.function_table.named (body r)
    at ≡ [] → left_from r (Body at) ≡ []
unfolding left_from
script_end r at script e = script_from r at script ∙ ap (λ ps. map (λ f. piece_output r.files (body r) f.piece) ps) e

same_first : {F : Type 0} (f g : FoundOf F) (xs ys : List (FoundOf F)) → f ∷ xs ≡ g ∷ ys → f ≡ g
same_first f g xs ys e = cc

-- a piece that is read is the one at its place
piece_read : {F : Type 0} (named : List ℕ → F) (script : List ℕ) (at : ℕ) (found : FoundOf F) → IsPlace script at → at < length script
    → pieces_by named script at ≡ found ∷ pieces_by named script found.next → found ≡ piece_by named script at
piece_read named script at found place h e =
    let goes = found-goes named script at (piece_by named script at) place (λ end. omega (arith, h, end)) refl in
    same_first found (piece_by named script at) (pieces_by named script found.next) (pieces_by named script (piece_by named script at).next)
    (sym e ∙ pieces_by-step named script at (piece_by named script at).next goes)

abbrev pub text_found : {F : Type 0} → ℕ → ℕ → ℕ → FoundOf F
text_found from len next = record { piece = Text from len; next = next }

-- the piece is the text run from the place on
record IsRun (script : List ℕ) (at from len next : ℕ) : Type 0 where
  from_is : from ≡ at
  len_is : len ≡ run_end script at - at
  next_is : next ≡ run_end script at

no_text : {F : Type 0} (test : Bool) (a b c d : ℕ) (f : F) (from len : ℕ) → Text from len ≡ (if test then Include a b else Call f c d) → ⊥
no_text true a b c d f from len e = cc
no_text false a b c d f from len e = cc

run_by : {F : Type 0} (named : List ℕ → F) (m : Bool) (script : List ℕ) (at from len next : ℕ)
    → text_found from len next ≡ (if m then record {
      piece = directive named script at;
      next = min (line_end script (at + 2) + 1) (length script);
    } else record { piece = Text at (run_end script at - at); next = run_end script at })
    → IsRun script at from len next
run_by {F = F} named true script at from len next e =
    let inner = at + 2 in
    let stop = before_cr script (at + 2) (line_end script (at + 2)) in
    absurd (no_text (nat_lt inner stop && is_byte script 58 inner) (word script (inner + 1) stop).at (word script (inner + 1) stop).len
    (word script (word_end script inner stop) stop).at (word script (word_end script inner stop) stop).len
    (named (slice_range script (word_start script inner stop) (word_end script inner stop))) from len
    (ap (λ (f : FoundOf F). f.piece) e))
run_by {F = F} named false script at from len next e =
    let piece : Text from len ≡ Text at (run_end script at - at) = ap (λ (f : FoundOf F). f.piece) e in
    record { from_is = cc; len_is = cc; next_is = ap (λ (f : FoundOf F). f.next) e }

run_of : {F : Type 0} (named : List ℕ → F) (script : List ℕ) (at from len next : ℕ) → text_found from len next ≡ piece_by named script at
    → IsRun script at from len next
run_of named script at from len next e = run_by named (is_directive_mark script at) script at from len next e

-- a slice past its first n elements
slice_past : (xs : List ℕ) (at end n : ℕ) → n ≤ end - at → slice_range xs (at + n) ((at + n) + (end - (at + n))) ≡ drop n (slice_range xs at end)
slice_past xs at end n h =
    let parts : end - at ≡ n + (end - (at + n)) = omega (arith, h) in
    let width : ((at + n) + (end - (at + n))) - (at + n) ≡ end - (at + n) = omega arith in
    ap (λ m. take m (drop (at + n) xs)) width
    ∙ ap (λ rest. take (end - (at + n)) rest) (sym (drop-drop n at xs))
    ∙ sym (drop-take n (end - (at + n)) (drop at xs))
    ∙ ap (λ m. drop n (take m (drop at xs))) (sym parts)

closed_at : (script : List ℕ) (at : ℕ) → at < length script → ◌⊎◌ (is_inside_directive script at ≡ false) (at ≡ length script)
    → is_inside_directive script at ≡ false
closed_at script at h (inl closed) = closed
closed_at script at h (inr end) = absurd (omega (arith, h, end))

length-slice : (xs : List ℕ) (a b : ℕ) → length (slice_range xs a b) ≤ b - a
length-slice xs a b = omega (arith, Rattle.std.proofs.Common.length-take (b - a) (drop a xs))

pub run_short : (text : List ℕ) (at : ℕ) → at ≤ length text → run_end text at ≤ length text
run_short text at h = (first_place-is (is_directive_mark text) at (length text) h).high

-- a thread in a text run generates the rest of it
run_further : {F : Type 0} (r : FileReply F) (at n : ℕ) → is_scripted r.file ≡ true → length (body r) ≤ 16777216
    → is_inside_directive (body r) at ≡ false → at ≤ length (body r) → at + n < run_end (body r) at
    → IsFurther r (slice_range (body r) at (run_end (body r) at)) (body_from r (run_end (body r) at)) (Body at) n
unfolding left_from Fits
run_further r at n script short closed within inside =
    let there = run-inside (body r) at (at + n) closed (omega arith) inside within in
    let rest = run-rest r.functions.function_table.named (body r) at (at + n) closed (omega arith) inside within in
    let high = run_short (body r) at within in
    record {
      fits = record { within = omega (arith, inside, high); between = λ t opened. absurd (true≢false (sym opened ∙ there.1)) };
      small = omega (arith, inside, high, short);
      pieces = script_from r (at + n) script
          ∙ ap (λ ps. map (λ f. piece_output r.files (body r) f.piece) ps) rest
          ∙ ap (λ m. Plain (slice_range (body r) (at + n) ((at + n) + (run_end (body r) at - (at + n)))) ∷ m) (sym (script_from r (run_end (body r) at) script))
          ∙ ap (λ f. Plain f ∷ body_from r (run_end (body r) at)) (slice_past (body r) at (run_end (body r) at) n (omega (arith, inside)));
    }

-- in a text run
pub run_seen : {R F : Type 0} (text : R → List ℕ) (r : FileReply F) (at from len next : ℕ) (s : Span R F) → is_scripted r.file ≡ true
    → IsBodyPlace r at → length (body r) ≤ 16777216 → Reads r.functions.function_table.named (body r) at (text_found from len next)
    → IsSpan text s (slice_range (body r) at (at + len)) → Sees text r (left_from r (Body at)) (record { span = s; here = Body at; next = Body next })
unfolding left_from Fits
run_seen {F = F} text r at from len next s script is short read span =
    let before : at < length (body r) = omega (arith, read.after, read.place.0) in
    let place : IsPlace (body r) at = is_place r at script is in
    let closed : is_inside_directive (body r) at ≡ false = closed_at (body r) at before place.1 in
    let run : IsRun (body r) at from len next = run_of r.functions.function_table.named (body r) at from len next
    (piece_read r.functions.function_table.named (body r) at (text_found from len next) place before read.pieces) in
    let more : List (ScriptPiece F) = body_from r next in
    let prefix : slice_range (body r) at (at + len) ≡ slice_range (body r) from (from + len) = ap (λ a. slice_range (body r) a (a + len)) (sym run.from_is) in
    let end_is : at + len ≡ run_end (body r) at = omega (arith, run.len_is, run.next_is, read.after) in
    subst (λ ps. Sees text r ps (record { span = s; here = Body at; next = Body next }))
    (ap (λ f. Plain f ∷ more) prefix ∙ sym (script_step r at (text_found from len next) script read.pieces))
    (sees_first text r (slice_range (body r) at (at + len)) more (record { span = s; here = Body at; next = Body next }) span refl
    (body_place r next read.place) (λ captures. tt)
    (λ n h.
    let inside : at + n < run_end (body r) at = omega (arith, end_is, h, length-slice (body r) at (at + len)) in
    subst (λ e. IsFurther r (slice_range (body r) at e) more (Body at) n) (sym end_is)
    (subst (λ b. IsFurther r (slice_range (body r) at (run_end (body r) at)) (body_from r b) (Body at) n) (sym run.next_is)
    (run_further r at n script short closed (omega (arith, before)) inside))))

-- a prefix of a long text run
pub long_seen : {R F : Type 0} (text : R → List ℕ) (r : FileReply F) (at n : ℕ) (s : Span R F) → is_scripted r.file ≡ true
    → IsBodyPlace r at → length (body r) ≤ 16777216 → 0 < n → at + n < run_end (body r) at
    → IsSpan text s (slice_range (body r) at (at + n)) → Sees text r (left_from r (Body at)) (record { span = s; here = Body at; next = Body (at + n) })
unfolding left_from Fits
long_seen {F = F} text r at n s script is short some long span =
    let high = run_short (body r) at is.within in
    let before : at < length (body r) = omega (arith, long, high) in
    let closed : is_inside_directive (body r) at ≡ false = closed_at (body r) at before (is_place r at script is).1 in
    let prefix : List ℕ = slice_range (body r) at (run_end (body r) at) in
    let more : List (ScriptPiece F) = body_from r (run_end (body r) at) in
    let further : (k : ℕ) → at + k < run_end (body r) at → IsFurther r prefix more (Body at) k = λ k inside. run_further r at k script short
    closed (omega (arith, before)) inside in
    let here : left_from r (Body at) ≡ Plain prefix ∷ more = ap (λ a. left_from r (Body a)) (omega arith) ∙ (further 0 (omega (arith, long))).pieces in
    let size : length prefix ≡ run_end (body r) at - at = omega
    (arith, Rattle.std.proofs.Common.length-take (run_end (body r) at - at) (drop at (body r)), Rattle.std.proofs.Common.length-drop at (body r), high) in
    let part : slice_range (body r) at (at + n) ≡ take n prefix =
    ap (λ k. take k (drop at (body r))) (omega arith) ∙ sym (take-take n (run_end (body r) at - at) (drop at (body r)) (omega (arith, long))) in
    subst (λ ps. Sees text r ps (record { span = s; here = Body at; next = Body (at + n) })) (sym here)
    (sees_prefix text r prefix more s (Body at) n some (omega (arith, size, long)) (span_along text s _ _ part span) (λ captures. tt)
    (λ k h. further k (omega (arith, h, long))))

-- a text run is read from the place on
pub text_at : {F : Type 0} (named : List ℕ → F) (script : List ℕ) (at from len next : ℕ) → IsPlace script at
    → Reads named script at (text_found from len next) → from ≡ at
text_at named script at from len next place read =
    (run_of named script at from len next (piece_read named script at (text_found from len next) place
    (omega (arith, read.after, read.place.0)) read.pieces)).from_is

-- the first piece is an include, or a call
pub include_step : {F : Type 0} (r : FileReply F) (at : ℕ) (script : List ℕ) (read : FoundOf F) (from len : ℕ) → script ≡ body r
    → is_scripted r.file ≡ true → Reads r.functions.function_table.named (body r) at read → read.piece ≡ Include from len
    → Plain (bytes_or [] (file_named r.files (slice_range script from (from + len)))) ∷ body_from r read.next ≡ left_from r (Body at)
include_step r at script read from len e scripted reads is =
    ap (λ s. Plain (bytes_or [] (file_named r.files (slice_range s from (from + len)))) ∷ body_from r read.next) e
    ∙ ap (λ p. piece_output r.files (body r) p ∷ body_from r read.next) (sym is)
    ∙ sym (script_step r at read scripted reads.pieces)

pub call_step : {F : Type 0} (r : FileReply F) (at : ℕ) (script : List ℕ) (read : FoundOf F) (f : F) (from len : ℕ) → script ≡ body r
    → is_scripted r.file ≡ true → Reads r.functions.function_table.named (body r) at read → read.piece ≡ Call f from len
    → Made f (slice_range script from (from + len)) ∷ body_from r read.next ≡ left_from r (Body at)
call_step r at script read f from len e scripted reads is =
    ap (λ s. Made f (slice_range s from (from + len)) ∷ body_from r read.next) e
    ∙ ap (λ p. piece_output r.files (body r) p ∷ body_from r read.next) (sym is)
    ∙ sym (script_step r at read scripted reads.pieces)

-- ---- the directive that ends where a script continues

mark_by : {F : Type 0} (named : List ℕ → F) (m : Bool) (script : List ℕ) (at : ℕ) (found : FoundOf F) → ((from len : ℕ) → found.piece ≡ Text from len → ⊥)
    → found ≡ (if m then record { piece = directive named script at; next = min (line_end script (at + 2) + 1) (length script) } else
    record { piece = Text at (run_end script at - at); next = run_end script at })
    → m ≡ true
mark_by {F = F} named true script at found other e = refl
mark_by {F = F} named false script at found other e = absurd (other at (run_end script at - at) (ap (λ (f : FoundOf F). f.piece) e))

-- a piece that is no text run begins with a directive's mark
begins_at : {F : Type 0} (named : List ℕ → F) (script : List ℕ) (at : ℕ) (found : FoundOf F) → IsPlace script at → at < length script
    → ((from len : ℕ) → found.piece ≡ Text from len → ⊥) → found ≡ piece_by named script at → begins script at ≡ true
begins_at named script at found place before other e =
    (λ i. mark_by named (is_directive_mark script at) script at found other e i && not (closed_at script at before place.1 i))

-- a directive that is read ends where the script continues
ends_directive : {F : Type 0} (named : List ℕ → F) (script : List ℕ) (at : ℕ) (read : FoundOf F) (kind : ℕ → ℕ → PieceOf F) (from len : ℕ)
    → IsPlace script at → Reads named script at read → ((a n : ℕ) → kind from len ≡ Text a n → ⊥) → read.piece ≡ kind from len
    → EndsDirective named script read.next kind (slice_range script from (from + len))
ends_directive named script at read kind from len place reads other is =
    let before : at < length script = omega (arith, reads.after, reads.place.0) in
    let found : read ≡ piece_by named script at = piece_read named script at read place before reads.pieces in
    record {
      from = at;
      at = from;
      len = len;
      begins = begins_at named script at read place before (λ a n t. other a n (sym is ∙ t)) found;
      piece = sym found ∙ ap (λ p. record { piece = p; next = read.next }) is;
      names = refl;
    }

pub ends_include : {F : Type 0} (r : FileReply F) (at : ℕ) (script : List ℕ) (read : FoundOf F) (from len : ℕ) → script ≡ body r
    → is_scripted r.file ≡ true → IsBodyPlace r at → Reads r.functions.function_table.named (body r) at read → read.piece ≡ Include from len
    → EndsInclude r read.next (slice_range script from (from + len))
ends_include r at script read from len e scripted is reads piece =
    subst (λ s. EndsInclude r read.next (slice_range s from (from + len))) (sym e)
    (ends_directive r.functions.function_table.named (body r) at read (λ a n. Include a n) from len (is_place r at scripted is) reads (λ a n t. cc) piece)

pub ends_call : {F : Type 0} (r : FileReply F) (at : ℕ) (script : List ℕ) (read : FoundOf F) (f : F) (from len : ℕ) → script ≡ body r
    → is_scripted r.file ≡ true → IsBodyPlace r at → Reads r.functions.function_table.named (body r) at read → read.piece ≡ Call f from len
    → EndsCall r read.next f (slice_range script from (from + len))
ends_call r at script read f from len e scripted is reads piece =
    subst (λ s. EndsCall r read.next f (slice_range s from (from + len))) (sym e)
    (ends_directive r.functions.function_table.named (body r) at read (λ a n. Call f a n) from len (is_place r at scripted is) reads (λ a n t. cc) piece)
