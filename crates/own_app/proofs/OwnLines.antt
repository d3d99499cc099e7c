-- What the application owes the laws of a trace, and the trace of a node with it.
use Rattle.own_app.proofs.Prelude.{All, All-append, All-cons, All-drop, All-head, All-nil, All-tail, AppState, Bool, FollowsPagesAt, IsByte}
use Rattle.own_app.proofs.Prelude.{IsMessage, IsOwnStep, IsPrefixOf, IsSteady, IsU32, List, [], MayWant, Now, AbstractNode}
use Rattle.own_app.proofs.Prelude.{OwnSpeaksOnLines, OwnStep, OwnTraceConforms, Happens, Writes, PlainMessage, SendsBytes, Snapshot}
use Rattle.own_app.proofs.Prelude.{TraceConforms, TraceEntry, IsDecoded, Addr, Nothing, Send, Close, Abort, ap, append-nil, append_assoc}
use Rattle.own_app.proofs.Prelude.{arith, drop, false, false≢true, has_last, if◌then◌else◌, initial_node, inl, is_next_message, is_overrun}
use Rattle.own_app.proofs.Prelude.{len_left, length, ltb-false, map, message_in, messages_text, nat_lt, next_ticket, opened_in, own_lawful}
use Rattle.own_app.proofs.Prelude.{own_output_model, own_sessions, own_spec, own_trace, own_want, refl, step, subst, sym, true}
use Rattle.own_app.proofs.Prelude.{with_message, with_written, write_message, ◌%◌, ◌++◌, ◌==◌, ◌||◌, ◌∙◌, ◌∷◌, ◌≡◌, ◌≤◌, ℕ}
use Rattle.own_app.specs.declared.TheConstants.{MOST_SILENT_POLLS}
use Rattle.app_pair.specs.Lemmas.PairLaws.{either_branch}
use Rattle.node_laws.proofs.EveryTraceConforms.{every_step}
use Rattle.node_laws.proofs.Steps.{Changes, IsStep, LineStep, OfNode, trace_over}

grows : (ks later : List Snapshot) → IsPrefixOf (messages_text ks) (messages_text (ks ++ later))
grows [] later = record { rest = messages_text later; joined = refl }
grows (k ∷ ks) later = by_last (message_in k.numbers).last (message_in k.numbers).text (messages_text ks) (messages_text (ks ++ later)) (grows ks later)
  where
    by_last : (b : Bool) (here xs ys : List ℕ) → IsPrefixOf xs ys → IsPrefixOf (here ++ (if b then [] else xs)) (here ++ (if b then [] else ys))
    by_last true here xs ys p = record { rest = []; joined = append-nil (here ++ []) }
    by_last false here xs ys p = record { rest = p.rest; joined = append_assoc here xs p.rest ∙ ap (λ l. here ++ l) p.joined }

stays : (ks later : List Snapshot) → has_last ks ≡ true → messages_text (ks ++ later) ≡ messages_text ks
stays [] later e = absurd (false≢true e)
stays (k ∷ ks) later e = by_last (message_in k.numbers).last (has_last ks) (message_in k.numbers).text (messages_text ks)
    (messages_text (ks ++ later)) e (λ f. stays ks later f)
  where
    by_last : (b c : Bool) (here xs ys : List ℕ) → (b || c) ≡ true → (c ≡ true → ys ≡ xs) → here ++ (if b then [] else ys) ≡ here ++ (if b then [] else xs)
    by_last true c here xs ys f same = refl
    by_last false c here xs ys f same = ap (λ l. here ++ l) (same f)

stays_ended : (ks later : List Snapshot) → has_last ks ≡ true → has_last (ks ++ later) ≡ true
stays_ended [] later e = absurd (false≢true e)
stays_ended (k ∷ ks) later e = by_last (message_in k.numbers).last (has_last ks) (has_last (ks ++ later)) e (λ f. stays_ended ks later f)
  where
    by_last : (b c d : Bool) → (b || c) ≡ true → (c ≡ true → d ≡ true) → (b || d) ≡ true
    by_last true c d f same = refl
    by_last false c d f same = same f

-- ---- bytes

low_bytes : (xs : List ℕ) → All IsByte (map (λ b. b % 256) xs)
low_bytes [] = All-nil IsByte
low_bytes (x ∷ xs) = All-cons IsByte (x % 256) (map (λ b. b % 256) xs) (omega arith) (low_bytes xs)

message_bytes : (numbers : List ℕ) → All IsByte (message_in numbers).text
message_bytes [] = All-nil IsByte
message_bytes (a ∷ []) = All-nil IsByte
message_bytes (a ∷ b ∷ []) = All-nil IsByte
message_bytes (a ∷ b ∷ c ∷ []) = All-nil IsByte
message_bytes (a ∷ b ∷ c ∷ d ∷ []) = All-nil IsByte
message_bytes (a ∷ b ∷ c ∷ d ∷ e ∷ text) = low_bytes text

messages_bytes : (ks : List Snapshot) → All IsByte (messages_text ks)
messages_bytes [] = All-nil IsByte
messages_bytes (k ∷ ks) =
    All-append IsByte (message_in k.numbers).text (if (message_in k.numbers).last then [] else messages_text ks) (message_bytes k.numbers)
    (by_last (message_in k.numbers).last (messages_text ks) (messages_bytes ks))
  where
    by_last : (b : Bool) (xs : List ℕ) → All IsByte xs → All IsByte (if b then [] else xs)
    by_last true xs h = All-nil IsByte
    by_last false xs h = h

prepared_input : (numbers : List ℕ) (p : AppState) (now : Now) (next : Bool) → (if next then with_message numbers p now else p).input ≡ p.input
prepared_input numbers p now true = refl
prepared_input numbers p now false = refl

sends_bytes : SendsBytes own_spec
sends_bytes = record {
  output = λ p h k. messages_bytes p.snapshots;
  connected = λ numbers port. All-nil IsByte;
  newdata = λ numbers p piece h k. All-append IsByte p.input piece h k;
  prepare = λ numbers p now h. subst (λ (l : List ℕ). All IsByte l) (sym (prepared_input numbers p now (is_next_message (message_in numbers) p))) h;
  acked = λ numbers p n h. h;
  polled = λ numbers p h. h;
}

-- ---- steady

own_steady : IsSteady own_spec
own_steady = record {
  lawful = own_lawful (λ p. Unit {0});
  connected_acked = λ numbers port. refl;
  connected_snapshots = λ numbers port. refl;
  newdata_snapshots = λ numbers p piece. refl;
  prepare_snapshots = λ numbers p now. either_branch (λ (q : AppState). q.snapshots) p (with_message numbers p now) (is_next_message (message_in numbers) p);
  acked_snapshots = λ numbers p n. refl;
  polled_snapshots = λ numbers p. refl;
  connected_numbers = λ numbers port h. All-cons IsU32 (next_ticket numbers) (drop 1 numbers) (omega arith) (All-drop IsU32 1 numbers h);
  newdata_numbers = λ numbers p piece h. h;
  acked_numbers = λ numbers p n h. h;
  polled_numbers = λ numbers p h. h;
  ended_numbers = λ numbers p how h. h;
}

-- ---- sessions

closes_so : (overrun some ended : Bool) (left : ℕ) → (if overrun then Abort else if some then Send left else if ended then Close else
    Nothing) ≡ Close → (some ≡ false) × (ended ≡ true)
closes_so true some ended left e = absurd (cc e)
closes_so false true ended left e = absurd (cc e)
closes_so false false true left e = (refl, refl)
closes_so false false false left e = absurd (cc e)

closes : (p : AppState) → p.acked ≤ length (messages_text p.snapshots) → own_want p ≡ Close → MayWant own_sessions p Close
closes p fits e =
    let so = closes_so (is_overrun p || (p.polls == MOST_SILENT_POLLS)) (nat_lt 0 (len_left p)) (has_last p.snapshots) (len_left p) e in
    (so.1, (let none = ltb-false 0 (len_left p) so.0 in omega (arith, none, fits)))

follows_sessions : (port : ℕ) → FollowsPagesAt own_spec port own_sessions
follows_sessions port = record {
  grows = λ q more k later. grows k later;
  stays = λ q more k later e. stays k later e;
  stays_complete = λ q more k later e. stays_ended k later e;
  here = λ p. true;
  lost = λ p. false;
  output = λ p h. refl;
  connected = λ numbers. (refl, refl);
  newdata = λ numbers p piece h. record {
    prefix = piece;
    rest = [];
    joined = append-nil piece;
    input = (refl, refl);
    all = inl refl;
    no_more = λ e. absurd (false≢true e);
  };
  prepare = λ numbers p now h. ((refl, prepared_input numbers p now (is_next_message (message_in numbers) p)), refl);
  acked = λ numbers p n h. ((refl, refl), refl);
  polled = λ numbers p h. ((refl, refl), refl);
  closes = λ numbers p h fits e. closes p fits e;
}

pub own_speaks : OwnSpeaksOnLines
own_speaks = record { steady = own_steady; bytes = sends_bytes; speaks = follows_sessions }

-- ---- a trace

abbrev steps_of : List OwnStep → List LineStep
steps_of [] = []
steps_of (Happens event ∷ steps) = OfNode event ∷ steps_of steps
steps_of (Writes message ∷ steps) = Changes (write_message message) ∷ steps_of steps

same_trace : (served : ℕ → Bool) (steps : List OwnStep) (n : AbstractNode) → trace_over own_spec served (steps_of steps) n ≡ own_trace served steps n
same_trace served [] n = refl
same_trace served (Happens event ∷ steps) n =
    ap (λ l. record { event = event; sent = (step own_spec served n event).sent } ∷ l) (same_trace served steps (step own_spec served n event).node)
same_trace served (Writes message ∷ steps) n = same_trace served steps (with_written message n)

all_u32 : (text : List ℕ) → All IsByte text → All IsU32 text
all_u32 [] h = All-nil IsU32
all_u32 (b ∷ text) h = All-cons IsU32 b text (let low = All-head IsByte b text h in omega (arith, low)) (all_u32 text (All-tail IsByte b text h))

opened_u32 : (numbers : List ℕ) → All IsU32 numbers → IsU32 (opened_in numbers)
opened_u32 [] h = omega arith
opened_u32 (opened ∷ numbers) h = All-head IsU32 opened numbers h

last_u32 : (last : Bool) → IsU32 (if last then 1 else 0)
last_u32 true = omega arith
last_u32 false = omega arith

pub written_u32 : (message : PlainMessage) (numbers : List ℕ) → IsMessage message → All IsU32 numbers → All IsU32 (write_message message numbers)
written_u32 message numbers is h =
    let last : ℕ = if message.last then 1 else 0 in
    let text : List ℕ = message.text in
    All-cons IsU32 (opened_in numbers) (message.to ∷ message.number ∷ message.taken ∷ last ∷ text) (opened_u32 numbers h)
    (All-cons IsU32 message.to (message.number ∷ message.taken ∷ last ∷ text) is.to
    (All-cons IsU32 message.number (message.taken ∷ last ∷ text) is.number
    (All-cons IsU32 message.taken (last ∷ text) is.taken (All-cons IsU32 last text (last_u32 message.last) (all_u32 text is.text)))))

all_steps : (own : Addr) (steps : List OwnStep) → All (IsOwnStep own) steps → All (IsStep own) (steps_of steps)
all_steps own [] h = All-nil (IsStep own)
all_steps own (Happens event ∷ steps) h =
    All-cons (IsStep own) (OfNode event) (steps_of steps) (All-head (IsOwnStep own) (Happens event) steps h)
    (all_steps own steps (All-tail (IsOwnStep own) (Happens event) steps h))
all_steps own (Writes message ∷ steps) h =
    All-cons (IsStep own) (Changes (write_message message)) (steps_of steps)
    (λ numbers are. written_u32 message numbers (All-head (IsOwnStep own) (Writes message) steps h) are)
    (all_steps own steps (All-tail (IsOwnStep own) (Writes message) steps h))

pub own_conforms : OwnTraceConforms
own_conforms served own is numbers words steps are =
    subst (λ (l : List TraceEntry). TraceConforms own_output_model served l × All (IsDecoded own) l) (same_trace served steps (initial_node own numbers))
    (every_step own_spec own_output_model own_steady sends_bytes follows_sessions served own is numbers words (steps_of steps) (all_steps own steps are))
