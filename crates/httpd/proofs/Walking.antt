-- Going from piece to piece.
-- [add: piece] The step to the next piece.
use Rattle.httpd.proofs.Prelude.{◌≡◌, ℕ, ◌+◌, ◌-◌, ◌<◌, ◌≤◌, ◌==◌, ◌&&◌, min, Bool, true, false, List, [], ◌++◌, length, take, drop}
use Rattle.httpd.proofs.Prelude.{nat_lt, refl, sym, ap, subst, ◌∙◌, arith, length-append, length-drop, inl, inr, if◌then◌else◌}
use Rattle.httpd.proofs.Prelude.{cases_eq, ne_eqb, lt-ltb, drop-drop, drop_at, Want, Nothing, Send, Close, File, ScriptFunctions}
use Rattle.httpd.proofs.Prelude.{ScriptPiece, reach_by, text_by, stopped_text, stopped_end, Span, Look, Thread, Head, Kind, Body, Inside}
use Rattle.httpd.proofs.Prelude.{Making, End, FileReply, body_from, left_from, Fits, KeepsOn, want_left, IsCallBefore}
use Rattle.httpd.proofs.Prelude.{IsText, IsPast, Leads, Sees, SeesBy, SeesCall, SeesText, span_text}
use Rattle.httpd.specs.declared.span.Span.TheVariants as span

-- ---- text past a place

pub past_more : {F : Type 0} (g : ScriptFunctions F) (files : List File) (n m : ℕ) (a b c : List (ScriptPiece F)) → IsPast g files n a b
    → IsPast g files m b c → IsPast g files (n + m) a c
past_more g files n m a b c p q = record {
  text = λ later. q.text later ∙ ap (λ xs. drop m xs) (p.text later) ∙ drop-drop m n (text_by g files a later);
  whole = λ later. q.whole later ∙ p.whole later;
  calls = q.calls ∙ p.calls;
}

past_leads : {F : Type 0} (g : ScriptFunctions F) (files : List File) (a b : List (ScriptPiece F)) (prefix : List ℕ) (n : ℕ)
    → n ≡ length prefix → Leads g files a prefix b → IsPast g files n a b
past_leads g files a b prefix n e leads = record {
  text = λ later. sym (ap (λ xs. drop n xs) (leads.text later) ∙ drop_at prefix (text_by g files b later) n (sym e));
  whole = λ later. sym (leads.whole later);
  calls = sym leads.calls;
}

-- how much is left past a place
pub left_past : {F : Type 0} (g : ScriptFunctions F) (files : List File) (n : ℕ) (a b : List (ScriptPiece F)) → IsPast g files n a b
    → length (text_by g files b []) ≡ length (text_by g files a []) - n
left_past g files n a b p = ap length (p.text []) ∙ length-drop n (text_by g files a [])

-- ---- what is seen where text is left

pub call_before : {F : Type 0} (r : FileReply F) (pieces : List (ScriptPiece F)) (f : F) (argument : List ℕ) (t : Thread)
    → SeesCall r pieces f argument t → (next : ℕ) × IsCallBefore r pieces f argument next × (t ≡ Making next 0)
call_before r pieces f argument (Making next at) s = (next, s.0, ap (λ n. Making next n) s.1)
call_before r pieces f argument (Head at) s = absurd s
call_before r pieces f argument (Kind at) s = absurd s
call_before r pieces f argument (Body at) s = absurd s
call_before r pieces f argument (Inside next file at) s = absurd s
call_before r pieces f argument End s = absurd s

-- before a call nothing is left, and the end is not reached
pub call_stops : {F : Type 0} (r : FileReply F) (pieces : List (ScriptPiece F)) (f : F) (argument : List ℕ) (t : Thread) → SeesCall r pieces f argument t
    → (text_by r.functions r.files pieces [] ≡ []) × (reach_by r.functions pieces [] ≡ false)
call_stops r pieces f argument t s =
    let call = call_before r pieces f argument t s in
    let more = body_from r call.0 in (
      ap (λ p. text_by r.functions r.files p []) call.1.first ∙ stopped_text r.functions r.files f argument more call.1.takes,
      ap (λ p. reach_by r.functions p []) call.1.first ∙ stopped_end r.functions f argument more call.1.takes,
    )

some_by : {R F : Type 0} (text : R → List ℕ) (r : FileReply F) (pieces : List (ScriptPiece F)) (look : Look R F) (s : Span R F)
    → SeesBy text r pieces look s → 0 < length (text_by r.functions r.files pieces []) → SeesText text r pieces look
some_by text r pieces look (span.Bytes world send) sees h = sees
some_by text r pieces look (span.Line kind at) sees h = sees
some_by text r pieces look (span.Made capture at end) sees h = sees
some_by text r pieces look (span.Call f argument) sees h =
    let none : length (text_by r.functions r.files pieces []) ≡ 0 = ap length ((call_stops r pieces f argument.now look.next sees).0) in
    absurd (omega (arith, none, h))
some_by text r pieces look span.End sees h =
    let none : length (text_by r.functions r.files pieces []) ≡ 0 = ap (λ p. length (text_by r.functions r.files p [])) sees in
    absurd (omega (arith, none, h))

pub some_seen : {R F : Type 0} (text : R → List ℕ) (r : FileReply F) (pieces : List (ScriptPiece F)) (look : Look R F)
    → Sees text r pieces look → 0 < length (text_by r.functions r.files pieces []) → SeesText text r pieces look
some_seen text r pieces look sees h = some_by text r pieces look look.span sees.sees h

-- ---- a walk

-- the thread is n bytes past the start
pub record Walks {F : Type 0} (r : FileReply F) (start thread : Thread) (n : ℕ) : Type 0 where
  pub fits : Fits r thread
  pub kept : KeepsOn r start thread
  pub history : IsPast r.functions r.files n (left_from r start) (left_from r thread)

pub walks_to : {F : Type 0} (r : FileReply F) (start thread : Thread) (n m : ℕ) → n ≡ m → Walks r start thread n → Walks r start thread m
walks_to r start thread n m e w = subst (λ k. Walks r start thread k) e w

pub walks_on : {R F : Type 0} (text : R → List ℕ) (r : FileReply F) (start thread : Thread) (n len : ℕ) (look : Look R F)
    → Walks r start thread n → SeesText text r (left_from r thread) look → len ≡ length (span_text text look.span) → Walks r start look.next (n + len)
walks_on text r start thread n len look w sees e = record {
  fits = sees.next;
  kept = λ captures keeps. sees.begins captures;
  history = past_more r.functions r.files n len (left_from r start) (left_from r thread) (left_from r look.next) w.history
      (past_leads r.functions r.files (left_from r thread) (left_from r look.next) (span_text text look.span) len e sees.leads);
}

-- what is left of the text where the walk has come
pub walks_left : {F : Type 0} (r : FileReply F) (start thread : Thread) (n : ℕ) → Walks r start thread n
    → length (text_by r.functions r.files (left_from r thread) []) ≡ length (text_by r.functions r.files (left_from r start) []) - n
walks_left r start thread n w = left_past r.functions r.files n (left_from r start) (left_from r thread) w.history

-- ---- filling

-- a prefix of the buffer is a prefix of the text, and the thread is after it unless the buffer is full
pub record Fills {F : Type 0} (r : FileReply F) (start thread : Thread) (from : ℕ) (out : List ℕ) : Type 0 where
  pub inside : from ≤ length out
  pub filled : take from out ≡ take from (text_by r.functions r.files (left_from r start) [])
  pub walks : from < length out → Walks r start thread from

take_parts : (xs : List ℕ) (n m : ℕ) → take (n + m) xs ≡ take n xs ++ take m (drop n xs)
take_parts xs n m = Rattle.std.proofs.Math.Seq.take-add n m xs

-- a buffer after one more piece of the text
pub fills_on : {R F : Type 0} (text : R → List ℕ) (r : FileReply F) (start thread : Thread) (from len count : ℕ) (out : List ℕ)
    (look : Look R F) → Fits r start → length out ≤ length (text_by r.functions r.files (left_from r start) [])
    → Fills r start thread from out → from < length out → Sees text r (left_from r thread) look → len ≡ length (span_text text look.span)
    → count ≡ min len (length out - from)
    → (new : List ℕ) → new ≡ take from out ++ take count (span_text text look.span) ++ drop (from + count) out → Fills r start look.next (from + count) new
fills_on text r start thread from len count out look fits enough is lt sees size least new made =
    let page : List ℕ = text_by r.functions r.files (left_from r start) [] in
    let walks : Walks r start thread from = is.walks lt in
    let left = walks_left r start thread from walks in
    let some : SeesText text r (left_from r thread) look = some_seen text r (left_from r thread) look sees (omega (arith, left, lt, enough)) in
    let on : Walks r start look.next (from + len) = walks_on text r start thread from len look walks some size in
    let cut : count ≤ length (span_text text look.span) = omega (arith, size, least) in
    let long : length new ≡ length out = omega (
      arith,
      ap length made,
      length-append (take from out ++ take count (span_text text look.span)) (drop (from + count) out),
      length-append (take from out) (take count (span_text text look.span)),
      Rattle.std.proofs.Common.length-take from out,
      Rattle.std.proofs.Common.length-take count (span_text text look.span),
      length-drop (from + count) out,
      cut,
      least,
      lt,
    ) in
    let here : drop from page ≡ span_text text look.span ++ text_by r.functions r.files (left_from r look.next) [] = sym
    (walks.history.text []) ∙ some.leads.text [] in
    record {
      inside = omega (arith, long, least, lt);
      filled =
          ap (λ xs. take (from + count) xs) made
          ∙ Rattle.std.proofs.lemmas.List.take_at (take from out ++ take count (span_text text look.span)) (drop (from + count) out) (from + count)
          (omega (
            arith,
            length-append (take from out) (take count (span_text text look.span)),
            Rattle.std.proofs.Common.length-take from out,
            Rattle.std.proofs.Common.length-take count (span_text text look.span),
            cut,
            least,
            lt,
          ))
          ∙ ap (λ xs. xs ++ take count (span_text text look.span)) is.filled
          ∙ ap (λ xs. take from page ++ xs) (sym (ap (λ xs. take count xs) here ∙ Rattle.std.proofs.lemmas.List.take-append-le count
          (span_text text look.span) (text_by r.functions r.files (left_from r look.next) []) cut))
          ∙ sym (take_parts page from count);
      walks = λ h. walks_to r start look.next (from + len) (from + count) (omega (arith, long, least, h)) on;
    }

-- ---- acknowledging

pub acked_on : {R F : Type 0} (text : R → List ℕ) (r : FileReply F) (start thread : Thread) (count left len : ℕ) (look : Look R F)
    → count ≤ length (text_by r.functions r.files (left_from r start) []) → Walks r start thread (count - left) → left ≤ count → 0 < left
    → Sees text r (left_from r thread) look → len ≡ length (span_text text look.span) → len ≤ left → Walks r start look.next (count - (left - len))
acked_on text r start thread count left len look enough walks h pos sees size le =
    let here = walks_left r start thread (count - left) walks in
    let some : SeesText text r (left_from r thread) look = some_seen text r (left_from r thread) look sees (omega (arith, here, enough, h, pos)) in
    walks_to r start look.next ((count - left) + len) (count - (left - len)) (omega (arith, h, le))
    (walks_on text r start thread (count - left) len look walks some size)

-- where text is left, each look brings fewer pieces or fewer bytes
pub nearer : {R F : Type 0} (text : R → List ℕ) (r : FileReply F) (start thread : Thread) (n len : ℕ) (look : Look R F)
    → n < length (text_by r.functions r.files (left_from r start) []) → Walks r start thread n → Sees text r (left_from r thread) look
    → len ≡ length (span_text text look.span)
    → (length (left_from r look.next) ≤ length (left_from r thread)) × (len ≡ 0 → length (left_from r look.next) < length (left_from r thread))
nearer text r start thread n len look enough walks sees e =
    let here = walks_left r start thread n walks in
    let some = some_seen text r (left_from r thread) look sees (omega (arith, here, enough)) in
    (some.no_more, λ none. some.fewer (sym e ∙ none))

-- so the pieces and the room are less together
pub less_by : (a b len room left : ℕ) → a ≤ b → (len ≡ 0 → a < b) → 0 < room → (0 < len → left < room) → left ≤ room → a + left < b + room
less_by a b len room left more fewer some shorter most =
    elim (cases_eq len 0) [ inl none ↦ omega (arith, fewer none, most) | inr apart ↦ omega (arith, shorter (omega (arith, apart)), more) ]

-- ---- what is requested

abbrev pub sent_or : Want → ℕ → Want
sent_or other n = if n == 0 then other else Send n

-- what is requested for some text
some_wanted : (whole : Bool) (n : ℕ) → 0 < n → n < 1460 → Send n ≡ (if whole && (n == 0) then Close else (if nat_lt 0 n then Send (min 1460 n) else Nothing))
some_wanted whole n pos h =
    let more : (whole && (n == 0)) ≡ false = ap (λ b. whole && b) (ne_eqb n 0 (λ e. omega (arith, pos, e))) ∙ Rattle.std.proofs.Math.Bool.and-false whole in
    let least : min 1460 n ≡ n = omega (arith, h) in
    sym (ap (λ b. if b then Close else (if nat_lt 0 n then Send (min 1460 n) else Nothing)) more
    ∙ ap (λ b. if b then Send (min 1460 n) else Nothing) (lt-ltb 0 n pos)
    ∙ ap (λ m. Send m) least)

wanted_by : (other : Want) (whole : Bool) (n : ℕ) → n < 1460 → other ≡ (if whole then Close else Nothing)
    → sent_or other n ≡ (if whole && (n == 0) then Close else (if nat_lt 0 n then Send (min 1460 n) else Nothing))
wanted_by other true n h e = elim (cases_eq n 0) [
  | inl z ↦ subst (λ k. sent_or other k ≡ (if true && (k == 0) then Close else (if nat_lt 0 k then Send (min 1460 k) else Nothing))) (sym z) e
  | inr z ↦ ap (λ b. if b then other else Send n) (ne_eqb n 0 z) ∙ some_wanted true n (omega (arith, z)) h
]
wanted_by other false n h e = elim (cases_eq n 0) [
  | inl z ↦ subst (λ k. sent_or other k ≡ (if false && (k == 0) then Close else (if nat_lt 0 k then Send (min 1460 k) else Nothing))) (sym z) e
  | inr z ↦ ap (λ b. if b then other else Send n) (ne_eqb n 0 z) ∙ some_wanted false n (omega (arith, z)) h
]

-- where nothing is left past n bytes, they are all
all_left : {F : Type 0} (r : FileReply F) (start thread : Thread) (n : ℕ) → Walks r start thread n
    → n ≤ length (text_by r.functions r.files (left_from r start) []) → text_by r.functions r.files (left_from r thread) [] ≡ []
    → length (text_by r.functions r.files (left_from r start) []) ≡ n
all_left r start thread n walks h none = omega (arith, walks_left r start thread n walks, h, ap length none)

pub want_at : {F : Type 0} (r : FileReply F) (start thread : Thread) (n : ℕ) (other : Want) (whole : Bool) → Walks r start thread n
    → n ≤ length (text_by r.functions r.files (left_from r start) []) → n < 1460
    → text_by r.functions r.files (left_from r thread) [] ≡ [] → reach_by r.functions (left_from r thread) [] ≡ whole
    → other ≡ (if whole then Close else Nothing)
    → sent_or other n ≡ want_left (text_by r.functions r.files (left_from r start) []) (reach_by r.functions (left_from r start) [])
want_at r start thread n other whole walks h lt none end e =
    wanted_by other whole n lt e
    ∙ ap (λ m. if whole && (m == 0) then Close else (if nat_lt 0 m then Send (min 1460 m) else Nothing)) (sym (all_left r start thread n walks h none))
    ∙ ap (λ w. want_left (text_by r.functions r.files (left_from r start) []) w) (sym (sym (walks.history.whole []) ∙ end))

-- ---- what a span is

pub text_unless : {R F : Type 0} (s : Span R F) → ((f : F) (argument : Rattle.std.proofs.Common.Bor (List ℕ)) → s ≡ span.Call f argument
    → ⊥) → (s ≡ span.End → ⊥) → IsText s
text_unless (span.Bytes world send) call end = tt
text_unless (span.Line kind at) call end = tt
text_unless (span.Made capture at last) call end = tt
text_unless (span.Call f argument) call end = call f argument refl
text_unless span.End call end = end refl

plain_by : {R F : Type 0} (text : R → List ℕ) (r : FileReply F) (pieces : List (ScriptPiece F)) (look : Look R F) (s : Span R F) → IsText s
    → SeesBy text r pieces look s → SeesText text r pieces look
plain_by text r pieces look (span.Bytes world send) t sees = sees
plain_by text r pieces look (span.Line kind at) t sees = sees
plain_by text r pieces look (span.Made capture at end) t sees = sees
plain_by text r pieces look (span.Call f argument) t sees = absurd t
plain_by text r pieces look span.End t sees = absurd t

pub plain_seen : {R F : Type 0} (text : R → List ℕ) (r : FileReply F) (pieces : List (ScriptPiece F)) (look : Look R F) → IsText look.span
    → Sees text r pieces look → SeesText text r pieces look
plain_seen text r pieces look t sees = plain_by text r pieces look look.span t sees.sees

pub call_seen : {R F : Type 0} (text : R → List ℕ) (r : FileReply F) (pieces : List (ScriptPiece F)) (look : Look R F) (f : F)
    (argument : Rattle.std.proofs.Common.Bor (List ℕ)) → look.span ≡ span.Call f argument → Sees text r pieces look
    → SeesCall r pieces f argument.now look.next
call_seen text r pieces look f argument e sees = subst (λ s. SeesBy text r pieces look s) e sees.sees

pub end_reached : {R F : Type 0} (text : R → List ℕ) (r : FileReply F) (pieces : List (ScriptPiece F)) (look : Look R F)
    → look.span ≡ span.End → Sees text r pieces look → pieces ≡ []
end_reached text r pieces look e sees = subst (λ s. SeesBy text r pieces look s) e sees.sees

-- a walk continues after a piece that takes no capture
pub ready_on : {R F : Type 0} (text : R → List ℕ) (r : FileReply F) (start thread : Thread) (n len : ℕ) (look : Look R F)
    → Walks r start thread n → n ≤ length (text_by r.functions r.files (left_from r start) []) → IsText look.span → Sees text r (left_from r thread) look
    → len ≡ length (span_text text look.span) → Walks r start look.next (n + len) × (n + len ≤ length (text_by r.functions r.files (left_from r start) []))
ready_on text r start thread n len look walks h t sees size =
    let some : SeesText text r (left_from r thread) look = plain_seen text r (left_from r thread) look t sees in
    let here = walks_left r start thread n walks in
    let more = length-append (span_text text look.span) (text_by r.functions r.files (left_from r look.next) []) in
    let left = ap length (some.leads.text []) in
    (walks_on text r start thread n len look walks some size, omega (arith, size, here, more, left, h))
