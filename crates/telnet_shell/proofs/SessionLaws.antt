-- The invariants of a shell's session.
use Rattle.telnet_shell.proofs.Prelude.{◌≡◌, ℕ, ◌+◌, ◌-◌, ◌≤◌, ◌==◌, min, Bool, true, false, ◌&&◌, ◌||◌, ◌⊎◌, inl, inr, nat_le, nat_lt}
use Rattle.telnet_shell.proofs.Prelude.{List, [], ◌∷◌, ◌++◌, length, refl, sym, ap, subst, ◌∙◌, arith, append-nil, append_assoc}
use Rattle.telnet_shell.proofs.Prelude.{length-append, if◌then◌else◌, leb-true, le-leb, ltb-true, eqb-true, and_parts, AppState, Snapshot}
use Rattle.telnet_shell.proofs.Prelude.{IsPrefixOf, MayWant, Nothing, Send, Close, Abort, Command, MOST_COMMANDS, Token, tokens}
use Rattle.telnet_shell.proofs.Prelude.{awaits_after, commands, line_after, all_commands, commands_in, has_quit, Text, needs_capture}
use Rattle.telnet_shell.proofs.Prelude.{plain_reply, sent_at, transcript, unfinished, needed, tokens_joined, commands_joined, commands_grow}
use Rattle.telnet_shell.proofs.Prelude.{further, transcript_grows, session, waiting, with_byte, receive_all, session_has_ended, is_settled}
use Rattle.telnet_shell.proofs.Prelude.{left_of_session, sessions, DeliversPrefix, KeepsSession}
use Rattle.telnet_shell.proofs.Representing.{quit_joins}

pub session_grows : (q more : List ℕ) (k later : List Snapshot) → IsPrefixOf (sessions.page q k) (sessions.page (q ++ more) (k ++ later))
session_grows q more k later =
    subst (λ (cs : List Command). IsPrefixOf (sessions.page q k) (transcript cs (k ++ later))) (sym (commands_grow q more))
    (transcript_grows (commands_in q) (further q more) k later)

-- ---- a whole talk

-- no command follows `quit`
none_further : (q more : List ℕ) → has_quit (all_commands q) ≡ true → commands_in (q ++ more) ≡ commands_in q
none_further q more e =
    commands_grow q more
    ∙ ap (λ (b : Bool). commands_in q ++ (if b then [] else Rattle.telnet_shell.specs.Reading.until_quit
    (commands (line_after [] (tokens Text q)) (tokens (awaits_after Text q) more)))) e
    ∙ append-nil (commands_in q)

plain_sent : (b : Bool) (s x w y : List ℕ) (n : ℕ) → (if b then n + 1 else n) ≤ 0 → (n ≤ 0 → y ≡ x) → (if b then w else s ++ y) ≡ (if b then [] else s ++ x)
plain_sent true s x w y n h e = absurd (omega (arith, h))
plain_sent false s x w y n h e = ap (λ (z : List ℕ). s ++ z) (e h)

each_sent : (b : Bool) (s t x y u v : List ℕ) (n l : ℕ) → (if b then n + 1 else n) ≤ l + 1 → (n ≤ l → x ≡ y) → (n ≤ l + 1 → u ≡ v)
    → (if b then s ++ x else t ++ u) ≡ (if b then s ++ y else t ++ v)
each_sent true s t x y u v n l h e f = ap (λ (z : List ℕ). s ++ z) (e (omega (arith, h)))
each_sent false s t x y u v n l h e f = ap (λ (z : List ℕ). t ++ z) (f h)

-- if no command waits for a capture, further ones change nothing
enough : (cs : List Command) (k later : List Snapshot) → needed cs ≤ length k → transcript cs (k ++ later) ≡ transcript cs k
enough [] k later h = refl
enough (c ∷ cs) [] [] h = refl
enough (c ∷ cs) [] (l ∷ ls) h =
    plain_sent (needs_capture c) (plain_reply c) (transcript cs []) (sent_at c l ++ transcript cs ls) (transcript cs (l ∷ ls)) (needed cs) h
    (λ g. enough cs [] (l ∷ ls) g)
enough (c ∷ cs) (k ∷ ks) later h =
    each_sent (needs_capture c) (sent_at c k) (plain_reply c) (transcript cs (ks ++ later)) (transcript cs ks)
    (transcript cs (k ∷ (ks ++ later))) (transcript cs (k ∷ ks)) (needed cs) (length ks)
    (omega (arith, h)) (λ g. enough cs ks later g) (λ g. enough cs (k ∷ ks) later (omega (arith, g)))

whole_stays : (q more : List ℕ) (k later : List Snapshot) → sessions.complete q k ≡ true → sessions.page (q ++ more) (k ++ later) ≡ sessions.page q k
whole_stays q more k later e =
    let both = and_parts (has_quit (all_commands q)) (nat_le (needed (commands_in q)) (length k)) e in
    ap (λ (cs : List Command). transcript cs (k ++ later)) (none_further q more both.0)
    ∙ enough (commands_in q) k later (leb-true (needed (commands_in q)) (length k) both.1)

all_joined : (q more : List ℕ) → all_commands (q ++ more) ≡ all_commands q ++ commands (line_after [] (tokens Text q)) (tokens (awaits_after Text q) more)
all_joined q more =
    ap (λ (ts : List Token). commands [] ts) (tokens_joined Text q more) ∙ commands_joined [] (tokens Text q) (tokens (awaits_after Text q) more)

both_true : (a b : Bool) → a ≡ true → b ≡ true → (a && b) ≡ true
both_true true b e f = f
both_true false b e f = e

stays_complete : (q more : List ℕ) (k later : List Snapshot) → sessions.complete q k ≡ true → sessions.complete (q ++ more) (k ++ later) ≡ true
stays_complete q more k later e =
    let both = and_parts (has_quit (all_commands q)) (nat_le (needed (commands_in q)) (length k)) e in
    let come : List Command = commands (line_after [] (tokens Text q)) (tokens (awaits_after Text q) more) in
    let quits : has_quit (all_commands (q ++ more)) ≡ true =
    ap (λ (cs : List Command). has_quit cs) (all_joined q more) ∙ quit_joins (all_commands q)
    (commands (line_after [] (tokens Text q)) (tokens (awaits_after Text q) more))
    ∙ ap (λ (b : Bool). b || has_quit (commands (line_after [] (tokens Text q)) (tokens (awaits_after Text q) more))) both.0 in
    let same : needed (commands_in (q ++ more)) ≡ needed (commands_in q) = ap (λ (cs : List Command). needed cs) (none_further q more both.0) in
    both_true (has_quit (all_commands (q ++ more))) (nat_le (needed (commands_in (q ++ more))) (length (k ++ later))) quits
    (le-leb (needed (commands_in (q ++ more))) (length (k ++ later))
    (omega (arith, same, length-append k later, leb-true (needed (commands_in q)) (length k) both.1)))

-- ---- receiving

equal_prefix : (p : AppState) → DeliversPrefix p p []
equal_prefix p = record { prefix = []; rest = []; joined = refl; input = sym (append-nil p.input); snapshots = refl; acked = refl; all = inl refl }

lost_receives : (p : AppState) (piece : List ℕ) → p.own ≡ 1 → receive_all p piece ≡ p
lost_receives p [] e = refl
lost_receives p (byte ∷ more) e =
    ap (λ (q : AppState). receive_all q more)
    (ap (λ (b : Bool). if b then p else if nat_lt MOST_COMMANDS (length (waiting (with_byte p byte))) then record p { own = 1 } else
    with_byte p byte) (ap (λ (n : ℕ). n == 1) e))
    ∙ lost_receives p more e

lost_prefix : (p q : AppState) (piece : List ℕ) → q ≡ p → p.own ≡ 1 → DeliversPrefix p q piece
lost_prefix p q piece e own = record {
  prefix = [];
  rest = piece;
  joined = refl;
  input = ap (λ (r : AppState). r.input) e ∙ sym (append-nil p.input);
  snapshots = ap (λ (r : AppState). r.snapshots) e;
  acked = ap (λ (r : AppState). r.acked) e;
  all = inr (ap (λ (r : AppState). r.own) e ∙ own);
}

byte_prefix : (p : AppState) (byte : ℕ) (more : List ℕ) (lost full : Bool) → (p.own == 1) ≡ lost
    → ((q : AppState) → DeliversPrefix q (receive_all q more) more)
    → DeliversPrefix p (receive_all (if lost then p else if full then record p { own = 1 } else with_byte p byte) more) (byte ∷ more)
byte_prefix p byte more true full e rest =
    let own : p.own ≡ 1 = eqb-true p.own 1 e in
    lost_prefix p (receive_all p more) (byte ∷ more) (lost_receives p more own) own
byte_prefix p byte more false true e rest =
    let same : receive_all (record p { own = 1 }) more ≡ record p { own = 1 } = lost_receives (record p { own = 1 }) more refl in
    record {
      prefix = [];
      rest = byte ∷ more;
      joined = refl;
      input = ap (λ (r : AppState). r.input) same ∙ sym (append-nil p.input);
      snapshots = ap (λ (r : AppState). r.snapshots) same;
      acked = ap (λ (r : AppState). r.acked) same;
      all = inr (ap (λ (r : AppState). r.own) same);
    }
byte_prefix p byte more false false e rest =
    let f : DeliversPrefix (with_byte p byte) (receive_all (with_byte p byte) more) more = rest (with_byte p byte) in
    record {
      prefix = byte ∷ f.prefix;
      rest = f.rest;
      joined = ap (λ (xs : List ℕ). byte ∷ xs) f.joined;
      input = f.input ∙ append_assoc p.input (byte ∷ []) f.prefix;
      snapshots = f.snapshots;
      acked = f.acked;
      all = f.all;
    }

receives_prefix : (p : AppState) (piece : List ℕ) → DeliversPrefix p (receive_all p piece) piece
receives_prefix p [] = equal_prefix p
receives_prefix p (byte ∷ more) =
    byte_prefix p byte more (p.own == 1) (nat_lt MOST_COMMANDS (length (waiting (with_byte p byte)))) refl (λ q. receives_prefix q more)

unpolled : (p : AppState) (piece : List ℕ) → DeliversPrefix p (receive_all (record p { polls = 0 }) piece) piece
unpolled p piece =
    let f : DeliversPrefix (record p { polls = 0 }) (receive_all (record p { polls = 0 }) piece) piece = receives_prefix (record p { polls = 0 }) piece in
    record { prefix = f.prefix; rest = f.rest; joined = f.joined; input = f.input; snapshots = f.snapshots; acked = f.acked; all = f.all }

-- ---- what the shell requests

plain_settled : (b le : Bool) (c : Command) (cs go : List Command) → (if b then c ∷ cs else if le then go else c ∷ cs) ≡ [] → (b ≡ false)
    × (le ≡ true) × (go ≡ [])
plain_settled true le c cs go e = absurd (cc)
plain_settled false true c cs go e = (refl, refl, e)
plain_settled false false c cs go e = absurd (cc)

either_settled : (b le le' : Bool) (c : Command) (cs go go' : List Command) → (if b then (if le then go else c ∷ cs) else (if le' then go' else c ∷ cs)) ≡ []
    → ((b ≡ true) × (le ≡ true) × (go ≡ [])) ⊎ ((b ≡ false) × (le' ≡ true) × (go' ≡ []))
either_settled true true le' c cs go go' e = inl (refl, refl, e)
either_settled true false le' c cs go go' e = absurd (cc)
either_settled false le true c cs go go' e = inr (refl, refl, e)
either_settled false le false c cs go go' e = absurd (cc)

-- Every command has its capture, and the text is among the first bytes.
pub record WasSentIn (cs : List Command) (ks : List Snapshot) (bytes : ℕ) : Type 0 where
  pub reported : needed cs ≤ length ks
  pub within : length (transcript cs ks) ≤ bytes

pub settled : (cs : List Command) (ks : List Snapshot) (bytes : ℕ) → unfinished cs ks bytes ≡ [] → WasSentIn cs ks bytes
settled [] ks bytes e = record { reported = omega arith; within = omega arith }
settled (c ∷ cs) [] bytes e =
    let size : ℕ = length (plain_reply c) in
    let r = plain_settled (needs_capture c) (nat_le (length (plain_reply c)) bytes) c cs (unfinished cs [] (bytes - length (plain_reply c))) e in
    let rest : WasSentIn cs [] (bytes - length (plain_reply c)) = settled cs [] (bytes - length (plain_reply c)) r.2 in
    let fits = leb-true (length (plain_reply c)) bytes r.1 in
    let count : needed (c ∷ cs) ≡ needed cs = ap (λ (b : Bool). if b then needed cs + 1 else needed cs) r.0 in
    let text : length (transcript (c ∷ cs) []) ≡ length (plain_reply c) + length (transcript cs []) =
    ap (λ (b : Bool). length (if b then [] else plain_reply c ++ transcript cs [])) r.0 ∙ length-append (plain_reply c) (transcript cs []) in
    record { reported = omega (arith, count, rest.reported); within = omega (arith, text, rest.within, fits) }
settled (c ∷ cs) (k ∷ ks) bytes e =
    elim (either_settled (needs_capture c) (nat_le (length (sent_at c k)) bytes) (nat_le (length (plain_reply c)) bytes) c cs
    (unfinished cs ks (bytes - length (sent_at c k))) (unfinished cs (k ∷ ks) (bytes - length (plain_reply c))) e) [
      | inl r ↦ (
          let rest : WasSentIn cs ks (bytes - length (sent_at c k)) = settled cs ks (bytes - length (sent_at c k)) r.2 in
          let fits = leb-true (length (sent_at c k)) bytes r.1 in
          let count : needed (c ∷ cs) ≡ needed cs + 1 = ap (λ (b : Bool). if b then needed cs + 1 else needed cs) r.0 in
          let text : length (transcript (c ∷ cs) (k ∷ ks)) ≡ length (sent_at c k) + length (transcript cs ks) =
          ap (λ (b : Bool). length (if b then sent_at c k ++ transcript cs ks else plain_reply c ++ transcript cs (k ∷ ks))) r.0
          ∙ length-append (sent_at c k) (transcript cs ks) in
          record { reported = omega (arith, count, rest.reported); within = omega (arith, text, rest.within, fits) })
      | inr r ↦ (
          let rest : WasSentIn cs (k ∷ ks) (bytes - length (plain_reply c)) = settled cs (k ∷ ks) (bytes - length (plain_reply c)) r.2 in
          let fits = leb-true (length (plain_reply c)) bytes r.1 in
          let count : needed (c ∷ cs) ≡ needed cs = ap (λ (b : Bool). if b then needed cs + 1 else needed cs) r.0 in
          let text : length (transcript (c ∷ cs) (k ∷ ks)) ≡ length (plain_reply c) + length (transcript cs (k ∷ ks)) =
          ap (λ (b : Bool). length (if b then sent_at c k ++ transcript cs ks else plain_reply c ++ transcript cs (k ∷ ks))) r.0
          ∙ length-append (plain_reply c) (transcript cs (k ∷ ks)) in
          record { reported = omega (arith, count, rest.reported); within = omega (arith, text, rest.within, fits) })
    ]

pub none_waits : (cs : List Command) → (length cs == 0) ≡ true → cs ≡ []
none_waits [] e = refl
none_waits (c ∷ cs) e = absurd (let z = eqb-true (length (c ∷ cs)) 0 e in omega (arith, z))

may_close : (p : AppState) → p.acked ≤ length (session p) → session_has_ended p ≡ true → MayWant sessions p Close
may_close p h e =
    let both = and_parts (has_quit (all_commands p.input)) (is_settled p) e in
    let output : WasSentIn (commands_in p.input) p.snapshots p.acked = settled (commands_in p.input) p.snapshots p.acked (none_waits (waiting p) both.1) in (
      both_true (has_quit (all_commands p.input)) (nat_le (needed (commands_in p.input)) (length p.snapshots)) both.0
          (le-leb (needed (commands_in p.input)) (length p.snapshots) output.reported),
      omega (arith, h, output.within),
    )

may_send : (p : AppState) (b : Bool) → nat_lt 0 (left_of_session p) ≡ b → MayWant sessions p (if b then Send (min 1460 (left_of_session p)) else Nothing)
may_send p true e = let some = ltb-true 0 (left_of_session p) e in (omega arith, omega arith)
may_send p false e = tt

may_want : (p : AppState) (gives_up ends : Bool) → p.acked ≤ length (session p) → session_has_ended p ≡ ends
    → MayWant sessions p (if gives_up then Abort else if ends then Close else if nat_lt 0 (left_of_session p) then Send
    (min 1460 (left_of_session p)) else Nothing)
may_want p true ends h e = tt
may_want p false true h e = may_close p h e
may_want p false false h e = may_send p (nat_lt 0 (left_of_session p)) refl

pub keeps_session : KeepsSession
keeps_session = record {
  grows = session_grows;
  stays = whole_stays;
  stays_complete = stays_complete;
  output = λ p. refl;
  delivers_text = λ numbers p piece. unpolled p piece;
  wants = λ numbers p h. may_want p ((p.own == 1) || (p.polls == 1200)) (session_has_ended p) h refl;
  aborts = λ numbers p e. ap (λ (n : ℕ). if (n == 1) || (p.polls == 1200) then Abort else if session_has_ended p then Close else if nat_lt 0
      (left_of_session p) then Send (min 1460 (left_of_session p)) else Nothing) e;
  delivers_no_more = λ numbers p piece e. ap (λ (r : AppState). r.input) (lost_receives (record p { polls = 0 }) piece e);
  stays_lost = λ numbers p piece e. ap (λ (r : AppState). r.own) (lost_receives (record p { polls = 0 }) piece e) ∙ e;
}
