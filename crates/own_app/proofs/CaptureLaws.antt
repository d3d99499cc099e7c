-- What the calls of a connection do to the states that its value represents.
use Rattle.own_app.proofs.Prelude.{All, All-head, All-tail, AppState, Bool, CanSupply, IsByte, IsRepresented, List, Now, OwnApp}
use Rattle.own_app.proofs.Prelude.{OwnRepresents, OwnState, PlainMessage, Snapshot, StateRepresents, after_capture, after_input, ap, arith}
use Rattle.own_app.proofs.Prelude.{bytes_taken, drop, drop-append-le, drop-drop, eq-eqb, eqb-true, false, false≢true, has_last}
use Rattle.own_app.proofs.Prelude.{if◌then◌else◌, is_due, is_next_message, is_overrun, le-ltb, le_prop, leb-false, leb-true, left_of_value}
use Rattle.own_app.proofs.Prelude.{len_left, length, length-append, length-drop, lt-ltb, ltb-false, ltb-true, map, message_in}
use Rattle.own_app.proofs.Prelude.{messages_text, messages_text_more, nat_le, ne_eqb, not, numbers_of, own_spec, pending, refl, state_of}
use Rattle.own_app.proofs.Prelude.{sym, true, with_message, ∥∥₁_elim, ◌%◌, ◌&&◌, ◌++◌, ◌+◌, ◌-◌, ◌<◌, ◌==◌, ◌||◌, ◌∙◌, ◌∷◌, ◌≡◌, ◌≤◌, ℕ, []}
use Rattle.std.proofs.lemmas.Bool.Decides.{nat_tests}
use Rattle.own_app.specs.declared.TheConstants.{RECEIVED_ROOM}

-- the numbers contain the message
same_bytes : (text : List ℕ) → All IsByte text → map (λ b. b % 256) text ≡ text
same_bytes [] h = refl
same_bytes (b ∷ text) h =
    let low : b < 256 = All-head IsByte b text h in
    let same : b % 256 ≡ b = omega (arith, low) in
    ap (λ x. x ∷ map (λ c. c % 256) text) same ∙ ap (λ l. b ∷ l) (same_bytes text (All-tail IsByte b text h))

pub message_back : (opened : ℕ) (s : PlainMessage) → All IsByte s.text → message_in (numbers_of opened s) ≡ s
message_back opened s h =
    elim s.last as (λ b. record {
      to = s.to;
      number = s.number;
      taken = s.taken;
      last = (if b then 1 else 0) == 1;
      text = map (λ c. c % 256) s.text;
    } ≡ record s { last = b }) [
      | true ↦ ap (λ l. record { to = s.to; number = s.number; taken = s.taken; last = true; text = l }) (same_bytes s.text h)
      | false ↦ ap (λ l. record { to = s.to; number = s.number; taken = s.taken; last = false; text = l }) (same_bytes s.text h)
    ]

-- one more capture
pub taken_more : (ks : List Snapshot) (k : Snapshot) → bytes_taken (ks ++ k ∷ []) ≡ bytes_taken ks + (message_in k.numbers).taken
taken_more [] k = omega arith
taken_more (j ∷ ks) k = let more = taken_more ks k in omega (arith, more)

or_none : (b : Bool) → (b || false) ≡ b
or_none true = refl
or_none false = refl

or_more : (b c x y : Bool) → (b || c) ≡ false → (c ≡ false → x ≡ y) → (b || x) ≡ y
or_more true c x y f same = absurd (false≢true (sym f))
or_more false c x y f same = same f

done_more : (ks : List Snapshot) (k : Snapshot) → has_last ks ≡ false → has_last (ks ++ k ∷ []) ≡ (message_in k.numbers).last
done_more [] k e = or_none (message_in k.numbers).last
done_more (j ∷ ks) k e = or_more (message_in j.numbers).last (has_last ks) (has_last (ks ++ k ∷ [])) (message_in k.numbers).last e (λ f. done_more ks k f)

same_test : (n m : ℕ) → n ≤ m → (n == m) ≡ (m - n == 0)
same_test n m h =
    elim (n == m) as (λ b. (n == m) ≡ b → b ≡ (m - n == 0)) [
      | true ↦ λ e. let same = eqb-true n m e in sym (eq-eqb (m - n) 0 (omega (arith, same)))
      | false ↦ λ e. sym (ne_eqb (m - n) 0 (λ f. false≢true (sym e ∙ eq-eqb n m (omega (arith, f, h)))))
    ] refl

left_same : (a : OwnState) (p : AppState) → StateRepresents a p → len_left p ≡ length a.sending - a.at
left_same a p s = omega (arith, s.acked, ap (λ l. length l) s.sending, length-append s.before a.sending)

-- the value shows whether all is acknowledged
pub nothing_left : (a : OwnState) (p : AppState) → StateRepresents a p → (a.at == length a.sending) ≡ (len_left p == 0)
nothing_left a p represents = same_test a.at (length a.sending) represents.within ∙ ap (λ n. n == 0) (sym (left_same a p represents))

-- an overrun connection captures nothing
gone : (b c d x y : Bool) → b ≡ false → (b && c && d && x) ≡ (b && c && d && y)
gone true c d x y e = absurd (false≢true (sym e))
gone false c d x y e = refl

and_none : (b : Bool) → (b && false) ≡ false
and_none true = refl
and_none false = refl

by_overrun : (overrun first ended left x y : Bool) → (overrun ≡ false → x ≡ y) → (first && not overrun && ended && left && x)
    ≡ (first && not overrun && ended && left && y)
by_overrun false first ended left x y same = ap (λ z. first && true && ended && left && z) (same refl)
by_overrun true first ended left x y same = gone (first && false) ended left x y (and_none first)

-- the value shows whether a message is the next of the state
pub due_is : (a : OwnState) (p : AppState) (s : PlainMessage) → StateRepresents a p → is_due a s ≡ is_next_message s p
due_is a p s represents =
    ap (λ n. s.to == n && s.number == a.count && not a.overrun && not a.ended && a.at == length a.sending && nat_le s.taken
    (length a.received)) represents.ticket
    ∙ ap (λ n. s.to == p.own && s.number == n && not a.overrun && not a.ended && a.at == length a.sending && nat_le s.taken
    (length a.received)) represents.count
    ∙ ap (λ b. s.to == p.own && s.number == length p.snapshots % 4294967296 && not a.overrun && not b && a.at == length a.sending
    && nat_le s.taken (length a.received)) represents.ended
    ∙ ap (λ b. s.to == p.own && s.number == length p.snapshots % 4294967296 && not a.overrun && not (has_last p.snapshots) && b
    && nat_le s.taken (length a.received))
    (nothing_left a p represents)
    ∙ by_overrun a.overrun (s.to == p.own && s.number == length p.snapshots % 4294967296) (not (has_last p.snapshots)) (len_left p == 0)
    (nat_le s.taken (length a.received)) (nat_le s.taken (length (pending p)))
    (λ e. ap (λ l. nat_le s.taken (length l)) (represents.received e))
    ∙ ap (λ b. s.to == p.own && s.number == length p.snapshots % 4294967296 && not b && not (has_last p.snapshots) && len_left p == 0
    && nat_le s.taken (length (pending p))) represents.overrun

-- the same of the message in the numbers
pub is_next_by_value : (a : OwnState) (p : AppState) (opened : ℕ) (s : PlainMessage) → All IsByte s.text → StateRepresents a p
    → is_next_message (message_in (numbers_of opened s)) p ≡ is_due a s
is_next_by_value a p opened s bytes represents =
    ap (λ (x : PlainMessage). is_next_message x p) (message_back opened s bytes) ∙ sym (due_is a p s represents)

record IsDue (a : OwnState) (s : PlainMessage) : Type 0 where
  stored : a.overrun ≡ false
  more : a.ended ≡ false
  all : a.at ≡ length a.sending
  there : s.taken ≤ length a.received

due_parts : (a : OwnState) (s : PlainMessage) → is_due a s ≡ true → IsDue a s
due_parts a s e = record {
  stored = grind (arith, nat_tests);
  more = grind (arith, nat_tests);
  all = grind (arith, nat_tests);
  there = grind (arith, nat_tests);
}

-- a capture
pub capture_represents : (a : OwnState) (p : AppState) (s : PlainMessage) (numbers : List ℕ) (now : Now) → s ≡ message_in numbers
    → StateRepresents a p → is_due a s ≡ true
    → StateRepresents (after_capture a s) (with_message numbers p now)
capture_represents a p s numbers now is represents e =
    let due = due_parts a s e in
    let k : Snapshot = record { numbers = numbers; now = now } in
    let received = represents.received due.stored in
    let taken : bytes_taken (p.snapshots ++ k ∷ []) ≡ bytes_taken p.snapshots + s.taken = taken_more p.snapshots k
    ∙ ap (λ (x : PlainMessage). bytes_taken p.snapshots + x.taken) (sym is) in
    let rest : drop s.taken a.received ≡ drop (bytes_taken (p.snapshots ++ k ∷ [])) p.input =
    ap (λ l. drop s.taken l) received ∙ drop-drop s.taken (bytes_taken p.snapshots) p.input ∙ ap (λ n. drop n p.input) (sym taken) in
    let size : length a.received ≡ length p.input - bytes_taken p.snapshots = ap (λ l. length l) received ∙ length-drop (bytes_taken p.snapshots) p.input in
    let small : length a.received ≤ RECEIVED_ROOM =
    ap-le (length a.received) (length (pending p)) (ap (λ l. length l) received) (ltb-false RECEIVED_ROOM (length (pending p))
    (sym represents.overrun ∙ due.stored)) in
    record {
      ticket = represents.ticket;
      taken = (let there = due.there in omega (arith, taken, size, there, represents.taken));
      overrun = due.stored ∙ sym (le-ltb RECEIVED_ROOM (length (drop (bytes_taken (p.snapshots ++ k ∷ [])) p.input))
          (omega (arith, ap (λ l. length l) rest, length-drop s.taken a.received, small)));
      received = λ f. rest;
      before = messages_text p.snapshots;
      sending = messages_text_more p.snapshots k (sym represents.ended ∙ due.more) ∙ ap (λ (x : PlainMessage). messages_text p.snapshots ++ x.text) (sym is);
      acked = omega (arith, represents.acked, due.all, ap (λ l. length l) represents.sending, length-append represents.before a.sending);
      within = omega arith;
      count = (let size = length-append p.snapshots (k ∷ []) in omega (arith, represents.count, size));
      ended = sym (done_more p.snapshots k (sym represents.ended ∙ due.more) ∙ ap (λ (x : PlainMessage). x.last) (sym is));
      polls = represents.polls;
    }
  where
    ap-le : (x y : ℕ) → x ≡ y → y ≤ RECEIVED_ROOM → x ≤ RECEIVED_ROOM
    ap-le x y e h = omega (arith, e, h)

-- a piece
pub input_represents : (a : OwnState) (p : AppState) (piece : List ℕ) → StateRepresents a p → StateRepresents (after_input a piece)
    (record p { input = p.input ++ piece; polls = 0 })
input_represents a p piece represents =
    elim a.overrun as (λ b. a.overrun ≡ b → StateRepresents (if b then record a { polls = 0 } else if nat_le
    (length a.received + length piece) RECEIVED_ROOM then record a { received = a.received ++ piece; polls = 0 } else record a
    { overrun = true; polls = 0 }) q) [
      | true ↦ λ e. overrun_represents (record a { polls = 0 }) refl refl refl refl refl refl e
          (sym (lt-ltb RECEIVED_ROOM (length (pending q)) (let over = ltb-true RECEIVED_ROOM (length (pending p)) (sym represents.overrun
          ∙ e) in omega (arith, over, size, length-append (pending p) piece))))
      | false ↦ λ e.
          elim (nat_le (length a.received + length piece) RECEIVED_ROOM) as (λ b. nat_le (length a.received + length piece) RECEIVED_ROOM
          ≡ b → StateRepresents (if b then record a { received = a.received ++ piece; polls = 0 } else record a { overrun = true; polls = 0 }) q) [
            | true ↦ λ f.
                record {
                  ticket = represents.ticket;
                  taken = more;
                  overrun = e ∙ sym (le-ltb RECEIVED_ROOM (length (pending q)) (let fits = leb-true (length a.received + length piece)
                      RECEIVED_ROOM f in omega (arith, fits, size, length-append (pending p) piece, ap (λ l. length l) (represents.received e))));
                  received = λ g. ap (λ l. l ++ piece) (represents.received e) ∙ sym rest;
                  before = represents.before;
                  sending = represents.sending;
                  acked = represents.acked;
                  within = represents.within;
                  count = represents.count;
                  ended = represents.ended;
                  polls = refl;
                }
            | false ↦ λ f.
                overrun_represents (record a { overrun = true; polls = 0 }) refl refl refl refl refl refl refl
                (sym (lt-ltb RECEIVED_ROOM (length (pending q)) (let over = leb-false (length a.received + length piece) RECEIVED_ROOM f in
                omega (arith, over, size, length-append (pending p) piece, ap (λ l. length l) (represents.received e)))))
          ] refl
    ] refl
  where
    q : AppState
    q = record p { input = p.input ++ piece; polls = 0 }

    more : bytes_taken p.snapshots ≤ length (p.input ++ piece)
    more = omega (arith, represents.taken, length-append p.input piece)

    rest : pending q ≡ pending p ++ piece
    rest = drop-append-le (bytes_taken p.snapshots) p.input piece represents.taken

    size : length (pending q) ≡ length (pending p ++ piece)
    size = ap (λ l. length l) rest

    overrun_represents : (b : OwnState) → b.ticket ≡ a.ticket → b.sending ≡ a.sending → b.at ≡ a.at → b.count ≡ a.count → b.ended ≡ a.ended
        → b.polls ≡ 0 → b.overrun ≡ true → true ≡ is_overrun q → StateRepresents b q
    overrun_represents b same_ticket same_sending same_at same_count same_end none is over = record {
      ticket = same_ticket ∙ represents.ticket;
      taken = more;
      overrun = is ∙ over;
      received = λ g. absurd (false≢true (sym g ∙ is));
      before = represents.before;
      sending = represents.sending ∙ ap (λ l. represents.before ++ l) (sym same_sending);
      acked = represents.acked ∙ ap (λ n. length represents.before + n) (sym same_at);
      within = omega (arith, same_at, represents.within, ap (λ l. length l) same_sending);
      count = same_count ∙ represents.count;
      ended = same_end ∙ represents.ended;
      polls = none;
    }

-- ---- what a value can send

pub place : (a : OwnApp) → IsRepresented {A = OwnApp} {K = Unit {0}} (λ b k p. OwnRepresents b p) a tt → a.at ≤ length a.sending.items
place a has = ∥∥₁_elim has le_prop (λ c. c.1.within)

pub room : (a : OwnApp) (n : ℕ) → CanSupply {A = OwnApp} {K = Unit {0}} (λ k. own_spec) (λ b k p. OwnRepresents b p) a tt n → a.at + n ≤ length a.sending.items
room a n can =
    ∥∥₁_elim can le_prop (λ c.
    omega (arith, c.2, ap (λ (l : List ℕ). length l) (left_of_value (state_of a) c.0 c.1), length-drop a.at a.sending.items, c.1.within))
