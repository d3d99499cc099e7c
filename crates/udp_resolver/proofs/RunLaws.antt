-- A run after one more item.
use Rattle.udp_resolver.proofs.Prelude.{◌≡◌, ℕ, zero, suc, ◌+◌, ◌<◌, Bool, true, false, not, ◌&&◌, leb, if◌then◌else◌, List, [], ◌∷◌, ◌++◌}
use Rattle.udp_resolver.proofs.Prelude.{length, map, take, replicate, get_or, refl, sym, ap, ◌∙◌, arith, append-nil, append_assoc, subst}
use Rattle.udp_resolver.proofs.Prelude.{None, Option, Result, drop_all, map-append, take_more, take-length, flat_map, list_any, refill}
use Rattle.udp_resolver.proofs.Prelude.{is_none, IsAtAge, Answer, Asking, Item, Byte, Quiet, State, WasFed, reported_by, completed, Fed}
use Rattle.udp_resolver.proofs.Prelude.{last_ident, line_text, open_ones, queries, query_texts, Question, all_settled, answer_among}
use Rattle.udp_resolver.proofs.Prelude.{fate_of, is_given_up, next_asking, questions, silences, LineEvent, MediumInput, Silence, by_frame}
use Rattle.udp_resolver.proofs.Prelude.{events, received_after, line_of, lines, Adds, RunRepresents, WritesSome, IsClockAt, asked_next}
use Rattle.udp_resolver.proofs.Prelude.{received_now, is_due, lines_by, unanswered, Clock, Run, bytes_among, SinkView, bytes_among-append}
use Rattle.uip_slip.specs.declared.fed.Fed.TheVariants as fed
use Rattle.udp_resolver.proofs.EventLaws.{silences-append}
use Rattle.udp_resolver.proofs.FateLaws.{received_map, map_silence, open_reported, opens}
use Rattle.udp_resolver.proofs.ItemLaws.{calm_bytes, events-append, events_byte}
use Rattle.udp_resolver.proofs.QueryLaws.{queries_calm, queries_first, queries_silence}
use Rattle.udp_resolver.proofs.StepLaws.{last_ident-append, query_texts-append}

pub writes_some_by : {T E : Type 0} (r : Result T E) (a b : SinkView) (xs ys : List ℕ) → ys ≡ xs → WritesSome a b r xs → WritesSome a b r ys
writes_some_by r a b xs ys e w = subst (λ (l : List ℕ). WritesSome a b r l) (sym e) w

pub questions-length : (asking : Asking) (names : List (List ℕ)) → length (questions asking names) ≡ length names
questions-length asking [] = refl
questions-length asking (text ∷ names) = ap suc (questions-length (next_asking asking) names)

pub heard-length : (datagram : List ℕ) (asked : List Question) (answers : List (Option Answer)) → length answers ≡ length asked
    → length (received_now datagram asked answers) ≡ length answers
heard-length datagram [] [] h = refl
heard-length datagram [] (a ∷ answers) h = absurd (omega arith)
heard-length datagram (q ∷ asked) [] h = refl
heard-length datagram (q ∷ asked) (a ∷ answers) h = ap suc (heard-length datagram asked answers (omega arith))

-- a list that was written over whole
pub refill_same : {X : Type 0} (olds news : List X) → length news ≡ length olds → refill (length olds) olds news ≡ news
refill_same olds news e =
    ap (λ l. take (length olds) (news ++ l)) (drop_all (length news) olds (omega arith))
    ∙ ap (λ l. take (length olds) l) (append-nil news) ∙ ap (λ n. take n news) (sym e) ∙ take-length news

knows_events : (asked : List Question) (items : List Item) (happened : List LineEvent) (bytes : List ℕ) (run : Run)
    → events items ≡ happened → bytes_among items ≡ bytes
    → WasFed bytes run.decoder → IsClockAt happened run.clock → run.answers.items ≡ map (answer_among happened) asked
    → run.sender.ident ≡ last_ident 0 (queries asked happened) → RunRepresents asked items run
knows_events asked items happened bytes run e b fed at answers sent = record {
  fed = subst (λ (l : List ℕ). WasFed l run.decoder) (sym b) fed;
  at = subst (λ (l : List LineEvent). IsClockAt l run.clock) (sym e) at;
  heard = answers ∙ ap (λ l. map (answer_among l) asked) (sym e);
  sent = sent ∙ ap (λ l. last_ident 0 (queries asked l)) (sym e);
}

-- the clock after events without a silence
at_calm : (happened more : List LineEvent) (clock : Clock) → silences more ≡ 0 → IsClockAt happened clock → IsClockAt (happened ++ more) clock
at_calm happened more clock calm at =
    let same : silences (happened ++ more) ≡ silences happened = omega (arith, silences-append happened more, calm) in
    record {
      given_up = at.given_up ∙ ap (λ n. leb 249 n) (sym same);
      age = λ h. subst (λ n. IsAtAge clock.timer n) (sym same) (at.age (subst (λ n. n < 249) same h));
    }

-- a byte that brings nothing
pub knows_byte : (asked : List Question) (items : List Item) (b : ℕ) (old new : Run) → RunRepresents asked items old
    → WasFed (bytes_among items ++ b ∷ []) new.decoder → flat_map by_frame (completed (bytes_among items) b) ≡ []
    → new.clock ≡ old.clock → new.sender ≡ old.sender → new.answers ≡ old.answers → RunRepresents asked (items ++ Byte b ∷ []) new
knows_byte asked items b old new k fed brings clock sender answers =
    knows_events asked (items ++ Byte b ∷ []) (events items) (bytes_among items ++ b ∷ []) new
    (events_byte items b ∙ ap (λ l. events items ++ l) brings ∙ append-nil (events items)) (bytes_among-append items (Byte b ∷ []))
    fed (subst (λ (c : Clock). IsClockAt (events items) c) (sym clock) k.at) (ap (λ a. a.items) answers ∙ k.heard) (ap (λ s. s.ident) sender ∙ k.sent)

-- a byte that brings a datagram
pub knows_came : (asked : List Question) (items : List Item) (b : ℕ) (datagram : List ℕ) (old new : Run) → is_given_up (events items)
    ≡ false → RunRepresents asked items old
    → WasFed (bytes_among items ++ b ∷ []) new.decoder → flat_map by_frame (completed (bytes_among items) b) ≡ MediumInput datagram ∷ []
    → new.clock ≡ old.clock → new.sender ≡ old.sender → new.answers.items ≡ received_now datagram asked old.answers.items
    → RunRepresents asked (items ++ Byte b ∷ []) new
knows_came asked items b datagram old new e k fed brings clock sender answers =
    let es = events items in
    knows_events asked (items ++ Byte b ∷ []) (es ++ MediumInput datagram ∷ []) (bytes_among items ++ b ∷ []) new
    (events_byte items b ∙ ap (λ l. es ++ l) brings) (bytes_among-append items (Byte b ∷ []))
    fed (subst (λ (c : Clock). IsClockAt (es ++ MediumInput datagram ∷ []) c) (sym clock) (at_calm es (MediumInput datagram ∷ []) old.clock refl k.at))
    (answers ∙ ap (λ l. received_now datagram asked l) k.heard ∙ received_map datagram es asked e)
    (ap (λ s. s.ident) sender ∙ k.sent ∙ ap (λ l. last_ident 0 l) (sym (queries_calm asked es (MediumInput datagram ∷ []) refl)))

-- a silence
pub events_quiet : (items : List Item) → events (items ++ Quiet ∷ []) ≡ events items ++ Silence ∷ []
events_quiet items = events-append [] items (Quiet ∷ [])

pub knows_silence : (asked : List Question) (items : List Item) (old new : Run) → is_given_up (events items) ≡ false → RunRepresents asked items old
    → IsClockAt (events items ++ Silence ∷ []) new.clock → new.decoder ≡ old.decoder → new.answers ≡ old.answers
    → new.sender.ident ≡ last_ident old.sender.ident (asked_next asked (events items)) → RunRepresents asked (items ++ Quiet ∷ []) new
knows_silence asked items old new e k at decoder answers sent =
    let es = events items in
    knows_events asked (items ++ Quiet ∷ []) (es ++ Silence ∷ []) (bytes_among items) new
    (events_quiet items) (bytes_among-append items (Quiet ∷ []) ∙ append-nil (bytes_among items))
    (subst (λ d. WasFed (bytes_among items) d) (sym decoder) k.fed) at
    (ap (λ a. a.items) answers ∙ k.heard ∙ map_silence es asked e)
    (sent ∙ ap (λ n. last_ident n (asked_next asked es)) k.sent ∙ sym (last_ident-append 0 (queries asked es) (asked_next asked es))
    ∙ ap (λ l. last_ident 0 l) (sym (queries_silence asked es)))

-- the open questions, by the answers
pub next_by : (asked : List Question) (items : List Item) (run : Run) (answers : List (Option Answer)) → is_given_up (events items) ≡ false
    → RunRepresents asked items run
    → answers ≡ run.answers.items → is_due (silences (events items) + 1) ≡ true → asked_next asked (events items) ≡ unanswered asked answers
next_by asked items run answers e k same due =
    ap (λ b. if b then open_ones asked (events items) else []) due
    ∙ sym (ap (λ l. unanswered asked l) (same ∙ k.heard) ∙ opens (events items) asked e)

pub next_none : (asked : List Question) (items : List Item) → is_due (silences (events items) + 1) ≡ false → asked_next asked (events items) ≡ []
next_none asked items due = ap (λ b. if b then open_ones asked (events items) else []) due

-- what items add to the line out
pub adds_bytes : (asked : List Question) (items : List Item) (bytes : List ℕ) → Adds asked items (map Byte bytes) []
adds_bytes asked items bytes =
    ap (λ l. line_text asked l) (events-append [] items (map Byte bytes))
    ∙ ap (λ l. query_texts 0 l) (queries_calm asked (events items) (received_after (bytes_among items) (map Byte bytes)) (calm_bytes (bytes_among items) bytes))
    ∙ sym (append-nil (line_text asked (events items)))

pub adds_quiet : (asked : List Question) (items : List Item) (run : Run) → RunRepresents asked items run
    → Adds asked items (Quiet ∷ []) (query_texts run.sender.ident (asked_next asked (events items)))
adds_quiet asked items run k =
    let es = events items in
    let next = asked_next asked es in
    ap (λ l. line_text asked l) (events_quiet items) ∙ ap (λ l. query_texts 0 l) (queries_silence asked es)
    ∙ query_texts-append 0 (queries asked es) next
    ∙ ap (λ n. query_texts 0 (queries asked es) ++ query_texts n next) (sym k.sent)

count_same : (xs ys : List LineEvent) → silences ys ≡ 0 → silences (xs ++ ys) ≡ silences xs
count_same xs ys e = omega (arith, silences-append xs ys, e)

-- bytes give nothing up
pub calm_over : (items : List Item) (bytes : List ℕ) → is_given_up (events items) ≡ false → is_given_up (events (items ++ map Byte bytes)) ≡ false
calm_over items bytes e =
    ap (λ l. is_given_up l) (events-append [] items (map Byte bytes))
    ∙ ap (λ n. leb 249 n) (count_same (events items) (received_after (bytes_among items) (map Byte bytes)) (calm_bytes (bytes_among items) bytes)) ∙ e

-- whether a question is open, by the answers
pub open_then : (is_over : Bool) (any : Bool) → is_over ≡ false → any ≡ (not is_over && any)
open_then true any e = absurd (cc e)
open_then false any e = refl

pub open_else : (is_over : Bool) (any : Bool) → is_over ≡ true → not is_over ≡ (not is_over && any)
open_else true any e = refl
open_else false any e = absurd (cc e)

pub open_by : (asked : List Question) (items : List Item) (run : Run) → RunRepresents asked items run
    → (not run.clock.given_up && list_any is_none run.answers.items) ≡ not (all_settled asked (events items))
open_by asked items run k =
    ap (λ b. not b && list_any is_none run.answers.items) k.at.given_up
    ∙ ap (λ l. not (is_given_up (events items)) && list_any is_none l) k.heard
    ∙ open_reported (is_given_up (events items)) (answer_among (events items)) asked

-- at the start no question has an answer
pub none_yet : (asked : List Question) (count : ℕ) → length asked ≡ count → ◌≡◌ {A = List (Option Answer)} (replicate count None) (map (answer_among []) asked)
none_yet [] zero e = refl
none_yet [] (suc count) e = absurd (omega arith)
none_yet (q ∷ asked) zero e = absurd (omega arith)
none_yet (q ∷ asked) (suc count) e = ap (λ (l : List (Option Answer)). None ∷ l) (none_yet asked count (omega arith))

-- what is reported of a byte brings nothing, unless it is a datagram
pub reported_none : (r : Fed) (s : State) → ((n : ℕ) → r ≡ fed.Datagram n → ⊥) → flat_map by_frame (reported_by r s) ≡ []
reported_none fed.More s h = refl
reported_none fed.Overlong s h = refl
reported_none (fed.Datagram n) s h = absurd (h n refl)

-- one byte more of bytes
pub byte_more : (items : List Item) (bytes : List ℕ) (i : ℕ) → i < length bytes
    → (items ++ map Byte (take i bytes)) ++ Byte (get_or bytes i 0) ∷ [] ≡ items ++ map Byte (take (i + 1) bytes)
byte_more items bytes i h =
    append_assoc items (map Byte (take i bytes)) (Byte (get_or bytes i 0) ∷ [])
    ∙ ap (λ l. items ++ l) (sym (map-append Byte (take i bytes) (get_or bytes i 0 ∷ [])) ∙ ap (λ l. map Byte l) (sym (take_more bytes i 0 h)))

all_open : (asked : List Question) → open_ones asked [] ≡ asked
all_open [] = refl
all_open (q ∷ asked) = ap (λ l. q ∷ l) (all_open asked)

-- at the start all questions are asked
pub first_asked : (asked : List Question) (answers : List (Option Answer)) → answers ≡ map (answer_among []) asked
    → unanswered asked answers ≡ queries asked []
first_asked asked answers e =
    ap (λ l. unanswered asked l) e ∙ opens [] asked refl ∙ all_open asked ∙ sym (queries_first asked)

-- the lines of the answers are the lines of the questions
pub lines_reported : (happened : List LineEvent) (asking : Asking) (names : List (List ℕ))
    → lines_by names (map (answer_among happened) (questions asking names)) (is_given_up happened) ≡ lines (questions asking names) happened
lines_reported happened asking [] = refl
lines_reported happened asking (text ∷ names) =
    ap (λ l. line_of text (fate_of happened (record { asking = asking; text = text })) ++ l) (lines_reported happened (next_asking asking) names)
