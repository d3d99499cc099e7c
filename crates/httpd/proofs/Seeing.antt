-- The span of the first piece that is left.
-- [add: piece] The first span of the piece.
use Rattle.httpd.proofs.Prelude.{◌≡◌, ℕ, ◌+◌, ◌<◌, ◌≤◌, List, [], ◌∷◌, ◌++◌, length, take, drop, refl, sym, ap, ◌∙◌, arith, append_assoc}
use Rattle.httpd.proofs.Prelude.{drop-append-le, drop-drop, length-take-le, take-append-drop, ScriptFunctions, ScriptPiece, Plain, text_by}
use Rattle.httpd.proofs.Prelude.{reach_by, File, Span, Look, Thread, Head, Kind, Body, Inside, Making, End, FileReply, calls_in, left_from}
use Rattle.httpd.proofs.Prelude.{Fits, moved, thread_place, KeepsDirective, KeepsAll, KeepsOn, Leads, IsInPiece, IsSpan, IsText, Sees}
use Rattle.httpd.proofs.Prelude.{SeesBy, SeesText, SpanFits, span_text}
use Rattle.httpd.specs.declared.span.Span.TheVariants as span

pub span_along : {R F : Type 0} (text : R → List ℕ) (s : Span R F) (xs ys : List ℕ) → xs ≡ ys → IsSpan text s xs → IsSpan text s ys
span_along text s xs ys e is = record { plain = is.plain; text = is.text ∙ e; fits = is.fits }

sees_by : {R F : Type 0} (text : R → List ℕ) (r : FileReply F) (pieces : List (ScriptPiece F)) (look : Look R F) (s : Span R F) → IsText s
    → SeesText text r pieces look → SeesBy text r pieces look s
sees_by text r pieces look (span.Bytes world send) t sees = sees
sees_by text r pieces look (span.Line kind at) t sees = sees
sees_by text r pieces look (span.Made capture at end) t sees = sees
sees_by text r pieces look (span.Call function argument) t sees = absurd t
sees_by text r pieces look span.End t sees = absurd t

pub sees_text : {R F : Type 0} (text : R → List ℕ) (r : FileReply F) (pieces : List (ScriptPiece F)) (look : Look R F) → IsText look.span
    → SpanFits text look.span → SeesText text r pieces look → Sees text r pieces look
sees_text text r pieces look t fits sees = record { sees = sees_by text r pieces look look.span t sees; fits = fits }

pub leads_first : {F : Type 0} (g : ScriptFunctions F) (files : List File) (prefix : List ℕ) (more : List (ScriptPiece F))
    → Leads g files (Plain prefix ∷ more) prefix more
leads_first g files prefix more = record { text = λ later. refl; whole = λ later. refl; calls = refl }

-- a thread n bytes further generates the rest of the first piece
pub record IsFurther {F : Type 0} (r : FileReply F) (prefix : List ℕ) (more : List (ScriptPiece F)) (here : Thread) (n : ℕ) : Type 0 where
  pub fits : Fits r (moved here n)
  pub small : thread_place here + n < 2147483648
  pub pieces : left_from r (moved here n) ≡ Plain (drop n prefix) ∷ more

in_piece : {F : Type 0} (r : FileReply F) (prefix : List ℕ) (more : List (ScriptPiece F)) (here : Thread) (n : ℕ) → n ≤ length prefix
    → IsFurther r prefix more here n → IsInPiece r (Plain prefix ∷ more) here n
in_piece r prefix more here n h is = record {
  fits = is.fits;
  small = is.small;
  history = record {
    text = λ later. ap (λ p. text_by r.functions r.files p later) is.pieces ∙ sym (drop-append-le n prefix (text_by r.functions r.files more later) h);
    whole = λ later. ap (λ p. reach_by r.functions p later) is.pieces;
    calls = ap (calls_in r.functions.function_table) is.pieces;
  };
}

pub sees_first : {R F : Type 0} (text : R → List ℕ) (r : FileReply F) (prefix : List ℕ) (more : List (ScriptPiece F)) (look : Look R F)
    → IsSpan text look.span prefix → left_from r look.next ≡ more → Fits r look.next → KeepsAll r look.next
    → ((n : ℕ) → n < length prefix → IsFurther r prefix more look.here n) → Sees text r (Plain prefix ∷ more) look
sees_first text r prefix more look is e next begins further =
    let size : length (span_text text look.span) ≡ length prefix = ap length is.text in
    let fewer : length (left_from r look.next) ≡ length more = ap length e in
    sees_text text r (Plain prefix ∷ more) look is.plain is.fits (record {
      leads = record {
        text = λ later. λ i. (sym is.text i) ++ text_by r.functions r.files (sym e i) later;
        whole = λ later. λ i. reach_by r.functions (sym e i) later;
        calls = ap (calls_in r.functions.function_table) (sym e);
      };
      no_more = omega (arith, fewer);
      fewer = λ none. omega (arith, fewer);
      next = next;
      begins = begins;
      within = λ n h. in_piece r prefix more look.here n (omega (arith, size, h)) (further n (omega (arith, size, h)));
    })

-- a prefix of a piece that continues
pub sees_prefix : {R F : Type 0} (text : R → List ℕ) (r : FileReply F) (prefix : List ℕ) (more : List (ScriptPiece F)) (s : Span R F)
    (here : Thread) (n : ℕ) → 0 < n → n < length prefix → IsSpan text s (take n prefix) → KeepsAll r (moved here n)
    → ((k : ℕ) → k ≤ n → IsFurther r prefix more here k) → Sees text r (Plain prefix ∷ more) (record { span = s; here = here; next = moved here n })
sees_prefix text r prefix more s here n some within is begins further =
    let there = further n (omega arith) in
    let size : length (span_text text s) ≡ n = ap length is.text ∙ length-take-le n prefix (omega (arith, within)) in
    let same : length (left_from r (moved here n)) ≡ length (Plain (drop n prefix) ∷ more) = ap length there.pieces in
    sees_text text r (Plain prefix ∷ more) (record { span = s; here = here; next = moved here n }) is.plain is.fits (record {
      leads = record {
        text = λ later.
            ap (λ xs. xs ++ text_by r.functions r.files more later) (sym (take-append-drop n prefix))
            ∙ append_assoc (take n prefix) (drop n prefix) (text_by r.functions r.files more later)
            ∙ (λ i. (sym is.text i) ++ text_by r.functions r.files (sym there.pieces i) later);
        whole = λ later. ap (λ p. reach_by r.functions p later) (sym there.pieces);
        calls = ap (calls_in r.functions.function_table) (sym there.pieces);
      };
      no_more = omega (arith, same);
      fewer = λ none. absurd (omega (arith, none, size, some));
      next = there.fits;
      begins = begins;
      within = λ k h. in_piece r prefix more here k (omega (arith, size, h, within)) (further k (omega (arith, size, h)));
    })

-- a thread that generates a text from an offset on, whatever the offset
pub rest_seen : {R F : Type 0} (text : R → List ℕ) (r : FileReply F) (T : ℕ → Thread) (world : List ℕ) (more : List (ScriptPiece F))
    (at : ℕ) (s : Span R F) (next : Thread) → IsSpan text s (drop at world) → at ≤ length world → length world ≤ 16777216
    → ((n : ℕ) → moved (T at) n ≡ T (at + n)) → thread_place (T at) ≡ at → ((a : ℕ) → left_from r (T a) ≡ Plain (drop a world) ∷ more)
    → ((a : ℕ) → a ≤ length world → Fits r (T a))
    → left_from r next ≡ more → Fits r next → KeepsAll r next → Sees text r (Plain (drop at world) ∷ more) (record { span = s; here = T at; next = next })
rest_seen text r T world more at s next is h short goes place pieces fits e next_fits begins =
    sees_first text r (drop at world) more (record { span = s; here = T at; next = next }) is e next_fits begins
    (λ n k.
    let inside : at + n ≤ length world = omega (arith, Rattle.std.proofs.Common.length-drop at world, k) in
    record {
      fits = Rattle.std.proofs.Common.subst (λ t. Fits r t) (sym (goes n)) (fits (at + n) inside);
      small = omega (arith, place, inside, short);
      pieces = ap (λ t. left_from r t) (goes n) ∙ pieces (at + n) ∙ ap (λ prefix. Plain prefix ∷ more) (sym (drop-drop n at world));
    })

-- nothing is left
pub end_seen : {R F : Type 0} (text : R → List ℕ) (r : FileReply F) (pieces : List (ScriptPiece F)) (look : Look R F) → pieces ≡ []
    → look.span ≡ span.End → Sees text r pieces look
end_seen text r pieces look none e = record {
  sees = Rattle.std.proofs.Common.subst (λ s. SeesBy text r pieces look s) (sym e) none;
  fits = Rattle.std.proofs.Common.subst (SpanFits text) (sym e) tt;
}

-- a piece without text
pub nothing_seen : {R F : Type 0} (text : R → List ℕ) (r : FileReply F) (piece : ScriptPiece F) (more : List (ScriptPiece F))
    (look : Look R F) → IsSpan text look.span [] → left_from r look.next ≡ more → Fits r look.next → KeepsAll r look.next
    → Leads r.functions r.files (piece ∷ more) [] more → Sees text r (piece ∷ more) look
nothing_seen text r piece more look is e next begins leads =
    let size : length (span_text text look.span) ≡ 0 = ap length is.text in
    let fewer : length (left_from r look.next) ≡ length more = ap length e in
    sees_text text r (piece ∷ more) look is.plain is.fits (record {
      leads = record {
        text = λ later. leads.text later ∙ (λ i. (sym is.text i) ++ text_by r.functions r.files (sym e i) later);
        whole = λ later. leads.whole later ∙ ap (λ p. reach_by r.functions p later) (sym e);
        calls = leads.calls ∙ ap (calls_in r.functions.function_table) (sym e);
      };
      no_more = omega (arith, fewer);
      fewer = λ none. omega (arith, fewer);
      next = next;
      begins = begins;
      within = λ n h. absurd (omega (arith, size, h));
    })

-- ---- what is kept

-- of the same thread
pub keeps_same : {F : Type 0} (r : FileReply F) (thread other : Thread) → other ≡ thread → KeepsOn r thread other
keeps_same r thread other e = λ captures keeps. Rattle.std.proofs.Common.subst (λ t. KeepsDirective r captures t) (sym e) keeps

-- of a thread of which nothing is asked
pub keeps_all : {F : Type 0} (r : FileReply F) (thread other : Thread) → other ≡ thread → KeepsAll r thread → KeepsAll r other
keeps_all r thread other e keeps = λ captures. keeps_same r thread other e captures (keeps captures)

-- further in the same piece
pub keeps_in : {F : Type 0} (r : FileReply F) (thread : Thread) (n : ℕ) → KeepsOn r thread (moved thread n)
keeps_in r (Head at) n = λ captures keeps. keeps
keeps_in r (Kind at) n = λ captures keeps. keeps
keeps_in r (Body at) n = λ captures keeps. keeps
keeps_in r (Inside next file at) n = λ captures keeps. keeps
keeps_in r (Making next at) n = λ captures keeps. keeps
keeps_in r End n = λ captures keeps. keeps
