-- The span at each kind of thread.
-- [add: piece] What a thread in the piece finds.
use Rattle.httpd.proofs.Prelude.{◌≡◌, ℕ, ◌<◌, ◌≤◌, false, List, [], ◌∷◌, ◌++◌, length, drop, codes, refl, sym, ap, ◌∙◌, arith, true≢false}
use Rattle.httpd.proofs.Prelude.{length-append, if◌then◌else◌, FileId, kind_line, piece_output, Plain, Span, Head, Kind, Body, Inside}
use Rattle.httpd.proofs.Prelude.{Making, End, FileReply, body, body_from, head_text, included, is_scripted, kind_text, left_from, Fits}
use Rattle.httpd.proofs.Prelude.{IsBodyPlace, IsInner, IsSpan, Sees}
use Rattle.httpd.proofs.Seeing.{rest_seen}

pub line_short : (kind : List ℕ) → length kind ≤ 64 → length (kind_line kind) ≤ 16777216
line_short kind h =
    omega (arith, length-append (codes "Content-type: " ++ kind) (codes "\r\n\r\n"), length-append (codes "Content-type: ") kind, h)

-- no directive is open at the start
pub prefix_place : {F : Type 0} (r : FileReply F) → IsBodyPlace r 0
prefix_place r = record { within = omega arith; between = λ s opened. absurd (true≢false (sym opened)) }

pub head_seen : {R F : Type 0} (text : R → List ℕ) (r : FileReply F) (at : ℕ) (s : Span R F) → at ≤ length (head_text r.file)
    → length (head_text r.file) ≤ 60 → IsSpan text s (drop at (head_text r.file))
    → Sees text r (left_from r (Head at)) (record { span = s; here = Head at; next = Kind 0 })
unfolding left_from Fits
head_seen text r at s h short is =
    rest_seen text r (λ a. Head a) (head_text r.file) (Plain (kind_line (kind_text r.file)) ∷ body_from r 0) at s (Kind 0) is h (omega (arith, short))
    (λ n. refl) refl (λ a. refl) (λ a k. k) refl (omega arith) (λ captures. tt)

pub kind_seen : {R F : Type 0} (text : R → List ℕ) (r : FileReply F) (at : ℕ) (s : Span R F) → at ≤ length (kind_line (kind_text r.file))
    → length (kind_text r.file) ≤ 64 → IsSpan text s (drop at (kind_line (kind_text r.file)))
    → Sees text r (left_from r (Kind at)) (record { span = s; here = Kind at; next = Body 0 })
unfolding left_from Fits
kind_seen text r at s h short is =
    rest_seen text r (λ a. Kind a) (kind_line (kind_text r.file)) (body_from r 0) at s (Body 0) is h (line_short (kind_text r.file) short)
    (λ n. refl) refl (λ a. refl) (λ a k. k) refl (prefix_place r) (λ captures. tt)

pub plain_from : {F : Type 0} (r : FileReply F) (a : ℕ) → is_scripted r.file ≡ false → body_from r a ≡ Plain (drop a (body r)) ∷ []
plain_from r a e = ap (λ b. if b then Rattle.std.specs.Prelude.map (λ found. piece_output r.files (body r) found.piece)
    (Rattle.script_lang.specs.Pieces.pieces_by r.functions.function_table.named (body r) a) else Plain (drop a (body r)) ∷ []) e

pub plain_seen : {R F : Type 0} (text : R → List ℕ) (r : FileReply F) (at : ℕ) (s : Span R F) → is_scripted r.file ≡ false
    → at ≤ length (body r) → length (body r) ≤ 16777216 → IsSpan text s (drop at (body r))
    → Sees text r (Plain (drop at (body r)) ∷ []) (record { span = s; here = Body at; next = End })
unfolding left_from Fits
plain_seen text r at s e h short is =
    rest_seen text r (λ a. Body a) (body r) [] at s End is h short
    (λ n. refl) refl (λ a. plain_from r a e)
    (λ a k. record { within = k; between = λ script opened. absurd (true≢false (sym script ∙ e)) }) refl tt (λ captures. tt)

pub inside_seen : {R F : Type 0} (text : R → List ℕ) (r : FileReply F) (next : ℕ) (file : FileId) (at : ℕ) (s : Span R F) → IsInner r next
    → file.0 < length r.files → at ≤ length (included r file) → length (included r file) ≤ 16777216 → IsSpan text s (drop at (included r file))
    → Sees text r (left_from r (Inside next file at)) (record { span = s; here = Inside next file at; next = Body next })
unfolding left_from Fits
inside_seen text r next file at s inner there h short is =
    rest_seen text r (λ a. Inside next file a) (included r file) (body_from r next) at s (Body next) is h short
    (λ n. refl) refl (λ a. refl) (λ a k. (inner, there, k)) refl inner.goes_on (λ captures. tt)

pub making_seen : {R F : Type 0} (text : R → List ℕ) (r : FileReply F) (next at : ℕ) (s : Span R F) → IsInner r next → at ≤ length r.made
    → length r.made ≤ 4200 → IsSpan text s (drop at r.made)
    → Sees text r (left_from r (Making next at)) (record { span = s; here = Making next at; next = Body next })
unfolding left_from Fits
making_seen text r next at s inner h short is =
    rest_seen text r (λ a. Making next a) r.made (body_from r next) at s (Body next) is h (omega (arith, short))
    (λ n. refl) refl (λ a. refl) (λ a k. (inner, k)) refl inner.goes_on (λ captures. tt)
