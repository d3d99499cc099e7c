-- A reply is written piece by piece, as its thread generates it.
use Rattle.httpd.proofs.Prelude.{◌≡◌, ℕ, ◌+◌, ◌<◌, List, [], ◌++◌, length, replicate, Option, Some, Result, Ok, Err, IsErr, refl, sym, ap}
use Rattle.httpd.proofs.Prelude.{◌∙◌, subst, arith, append_assoc, length-append, if◌then◌else◌, inl, inr, cases_eq, flat_map, Appends}
use Rattle.httpd.proofs.Prelude.{Failed, SinkView, Writes, Appends-none, Appends-then, writes_broken, writes_by, writes_none, writes_then}
use Rattle.httpd.proofs.Prelude.{Function, Capture, capture_of, uip, capture_text, uip_calls, File, wanted, Refused, Name, ScriptPiece}
use Rattle.httpd.proofs.Prelude.{reply_to_by, text_by, request_for, zero_snapshot, zero_page, zero_reply, zero_piece_text, zero_asked}
use Rattle.httpd.proofs.Prelude.{zero_text, FileId, SiteContent, Look, Thread, Head, FileReply, body_from, calls_in, found_file, left_from}
use Rattle.httpd.proofs.Prelude.{reply_in, Fits, SeesCall, SeesText, span_text, IsAsked}
use Rattle.httpd.proofs.Asking.{other_inner}
use Rattle.httpd.proofs.Reporting.{prefix_fits, reply_start}
use Rattle.httpd.proofs.Walking.{call_before}

-- what a thread has left to generate if each call has the zero record of its kind
pub zero_left : FileReply Function → Thread → List ℕ
zero_left r t = flat_map zero_piece_text (left_from r t)

-- what was written of a reply so far, and what its thread still generates
pub record Transmission (r : FileReply Function) (thread : Thread) (first now : SinkView) : Type 0 where
  pub prefix : List ℕ
  pub parts : zero_reply r.files r.file ≡ prefix ++ zero_left r thread
  pub fits : Fits r thread
  pub reported : Appends first.written now.written prefix
  pub same : now.faults ≡ first.faults

pub sending_starts : (r : FileReply Function) → r.functions ≡ uip → (first : SinkView) → Transmission r (Head 0) first first
unfolding zero_left
sending_starts r e first = record {
  prefix = [];
  parts = sym (ap (flat_map zero_piece_text) (reply_start r.functions r.files r.file r.made ∙ ap (λ g. reply_to_by g.function_table.named r.files r.file) e));
  fits = prefix_fits r;
  reported = Appends-none first.written;
  same = refl;
}

-- the text that is seen comes first
leads_zero : (r : FileReply Function) → r.functions ≡ uip → (thread : Thread) (look : Look Capture Function)
    → SeesText capture_text r (left_from r thread) look → zero_left r thread ≡ span_text capture_text look.span ++ zero_left r look.next
unfolding zero_left
leads_zero r e thread look sees =
    let n = length (left_from r thread) in
    sym (zero_text r.files (left_from r thread) n (omega arith))
    ∙ ap (λ g. text_by g r.files (left_from r thread) (replicate n zero_snapshot)) (sym e)
    ∙ sees.leads.text (replicate n zero_snapshot)
    ∙ ap (λ more. span_text capture_text look.span ++ more)
    (ap (λ g. text_by g r.files (left_from r look.next) (replicate n zero_snapshot)) e ∙ zero_text r.files (left_from r look.next) n sees.no_more)

-- a text more
pub sending_more : {T : Type 0} (r : FileReply Function) → r.functions ≡ uip → (thread : Thread) (look : Look Capture Function)
    (first mid now : SinkView) (t : T) → Transmission r thread first mid → SeesText capture_text r (left_from r thread) look
    → Writes {T = T} {E = Failed} mid now (Ok t) (span_text capture_text look.span) → Transmission r look.next first now
sending_more r is_uip thread look first mid now t s sees w = record {
  prefix = s.prefix ++ span_text capture_text look.span;
  parts = s.parts ∙ ap (λ rest. s.prefix ++ rest) (leads_zero r is_uip thread look sees)
      ∙ sym (append_assoc s.prefix (span_text capture_text look.span) (zero_left r look.next));
  fits = sees.next;
  reported = Appends-then first.written mid.written now.written s.prefix (span_text capture_text look.span) s.reported w.whole;
  same = w.cause.same ∙ s.same;
}

-- a text failed
pub sending_stops : {T U : Type 0} (r : FileReply Function) → r.functions ≡ uip → (thread : Thread) (look : Look Capture Function)
    (first mid now : SinkView) (e : Failed) (result : Result U Failed) → IsErr result → Transmission r thread first mid
    → SeesText capture_text r (left_from r thread) look
    → Writes {T = T} {E = Failed} mid now (Err e) (span_text capture_text look.span) → Writes first now result (zero_reply r.files r.file)
sending_stops {T = T} r is_uip thread look first mid now e result fails s sees w =
    writes_broken {U = T} result fails e first mid now s.prefix (span_text capture_text look.span) (zero_left r look.next) (zero_reply r.files r.file)
    (append_assoc s.prefix (span_text capture_text look.span) (zero_left r look.next)
    ∙ sym (s.parts ∙ ap (λ rest. s.prefix ++ rest) (leads_zero r is_uip thread look sees))) s.reported s.same w

-- the text of a call's record comes next
call_zero : (site : SiteContent) (found : Option FileId) (old new : Capture) (pieces : List (ScriptPiece Function)) (f : Function)
    (argument : List ℕ) (next : Thread) → SeesCall (reply_in site found old) pieces f argument next
    → new ≡ capture_of f 0 zero_snapshot.now
    → (flat_map zero_piece_text pieces ≡ zero_left (reply_in site found new) next) × Fits (reply_in site found new) next
    × (calls_in uip_calls pieces ≡ 1 + calls_in uip_calls (left_from (reply_in site found new) next))
    × (length pieces ≡ length (left_from (reply_in site found new) next))
unfolding zero_left left_from Fits
call_zero site found old new pieces f argument next sees made =
    let call = call_before (reply_in site found old) pieces f argument next sees in
    let more = body_from (reply_in site found old) call.0 in
    subst (λ t. (flat_map zero_piece_text pieces ≡ zero_left (reply_in site found new) t) × Fits (reply_in site found new) t
    × (calls_in uip_calls pieces ≡ 1 + calls_in uip_calls (left_from (reply_in site found new) t))
    × (length pieces ≡ length (left_from (reply_in site found new) t))) (sym call.2) (
      ap (flat_map zero_piece_text) call.1.first ∙ ap (λ c. capture_text c ++ flat_map zero_piece_text more) (sym made),
      (other_inner uip capture_text site found old new call.0 call.1.inner, omega arith),
      ap (calls_in uip_calls) call.1.first ∙ ap (λ t. if t then 1 + calls_in uip_calls more else calls_in uip_calls more) call.1.takes,
      ap length call.1.first,
    )

-- a record is taken
pub sending_taken : (site : SiteContent) (found : Option FileId) (old new : Capture) (thread next : Thread) (f : Function)
    (argument : List ℕ) (first now : SinkView) → Transmission (reply_in site found old) thread first now
    → SeesCall (reply_in site found old) (left_from (reply_in site found old) thread) f argument next
    → new ≡ capture_of f 0 zero_snapshot.now → Transmission (reply_in site found new) next first now
unfolding zero_left
sending_taken site found old new thread next f argument first now s sees made =
    let call = call_zero site found old new (left_from (reply_in site found old) thread) f argument next sees made in
    record { prefix = s.prefix; parts = s.parts ∙ ap (λ rest. s.prefix ++ rest) call.0; fits = call.1; reported = s.reported; same = s.same }

-- nothing is left
pub sending_ends : {T E : Type 0} (r : FileReply Function) (thread : Thread) (first now : SinkView) (t : T)
    → Transmission r thread first now → left_from r thread ≡ [] → Writes {T = T} {E = E} first now (Ok t) (zero_reply r.files r.file)
unfolding zero_left
sending_ends r thread first now t s none =
    writes_by (Ok t) first now (s.prefix ++ []) (zero_reply r.files r.file) (s.parts ∙ ap (λ ps. s.prefix ++ flat_map zero_piece_text ps) none)
    (writes_then (Ok t) first now now s.prefix [] s.reported s.same (writes_none now t))

-- ---- each look brings fewer calls, fewer pieces or fewer bytes

pub zero_size : FileReply Function → Thread → ℕ
zero_size r t = calls_in r.functions.function_table (left_from r t) + length (left_from r t) + length (zero_left r t)

pub smaller_text : (r : FileReply Function) → r.functions ≡ uip → (thread : Thread) (look : Look Capture Function)
    → SeesText capture_text r (left_from r thread) look → zero_size r look.next < zero_size r thread
unfolding zero_size
smaller_text r is_uip thread look sees =
    let bytes = ap length (leads_zero r is_uip thread look sees) ∙ length-append (span_text capture_text look.span) (zero_left r look.next) in
    elim (cases_eq (length (span_text capture_text look.span)) 0) [
      | inl none ↦ omega (arith, bytes, sees.leads.calls, sees.fewer none)
      | inr some ↦ omega (arith, bytes, sees.leads.calls, sees.no_more, some)
    ]

pub smaller_call : (site : SiteContent) (found : Option FileId) (old new : Capture) (thread next : Thread) (f : Function) (argument : List ℕ)
    → SeesCall (reply_in site found old) (left_from (reply_in site found old) thread) f argument next → new ≡ capture_of f 0 zero_snapshot.now
    → zero_size (reply_in site found new) next < zero_size (reply_in site found old) thread
unfolding zero_size zero_left
smaller_call site found old new thread next f argument sees made =
    let call = call_zero site found old new (left_from (reply_in site found old) thread) f argument next sees made in
    omega (arith, ap length call.0, call.2, call.3)

-- ---- what is asked for is written

pub asked_none : (files : List File) (target : List ℕ) → wanted (request_for target) ≡ Refused → [] ≡ zero_page files target
asked_none files target e = sym (zero_asked files target Refused e)

pub asked_some : (files : List File) (target : List ℕ) (found : Option FileId) → IsAsked files (wanted (request_for target)) (Some found)
    → zero_reply files (found_file files found) ≡ zero_page files target
asked_some files target found is = ap (zero_reply files) is.file ∙ sym (zero_asked files target (Name is.name) is.wanted)
