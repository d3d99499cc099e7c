-- What a shell requests, when it takes a capture and when it is given up, by its session alone.
use Rattle.telnet_shell.proofs.Prelude.{◌≡◌, ℕ, ◌+◌, ◌-◌, ◌≤◌, ◌<◌, ◌==◌, min, Bool, true, false, ◌&&◌, not, nat_le, nat_lt, List, [], ◌∷◌}
use Rattle.telnet_shell.proofs.Prelude.{◌++◌, codes, length, refl, sym, ap, ◌∙◌, arith, append-nil, length-append, if◌then◌else◌, bytes_eq}
use Rattle.telnet_shell.proofs.Prelude.{leb-true, le-leb, lt-leb, lt-ltb, ltb-true, eqb-true, eq-eqb, and_parts, and_from}
use Rattle.telnet_shell.proofs.Prelude.{false_from_ne_true, bytes_eq-Decides, AppState, Snapshot, Now, Nothing, Send, Close, Abort, Command}
use Rattle.telnet_shell.proofs.Prelude.{Help, Stats, Conns, Ticks, Quit, Blank, Other, Awaits, Token, tokens, tokens_at, awaits_after}
use Rattle.telnet_shell.proofs.Prelude.{commands, command_of, line_after, all_commands, commands_in, has_quit, is_quit, until_quit, Text}
use Rattle.telnet_shell.proofs.Prelude.{Second, Choice, Byte, Answer, past_text, needs_capture, plain_reply, sent_at, transcript}
use Rattle.telnet_shell.proofs.Prelude.{unfinished, needed, commands_grow, further, past_reply, reply_is_not_empty, shell_spec, session}
use Rattle.telnet_shell.proofs.Prelude.{waiting, with_byte, receive_byte, is_settled, is_stopped, session_has_ended, left_of_session}
use Rattle.telnet_shell.proofs.Prelude.{take_capture, sessions, IsExact, exact_want, all_acknowledged, is_given_up, capture_comes_next}
use Rattle.telnet_shell.proofs.Prelude.{completes}
use Rattle.telnet_shell.proofs.SessionLaws.{WasSentIn, settled, none_waits}

-- two tests with the same result
pub same_tests : (a b : Bool) → (a ≡ true → b ≡ true) → (b ≡ true → a ≡ true) → a ≡ b
same_tests true b f g = sym (f refl)
same_tests false true f g = g refl
same_tests false false f g = refl

-- ---- where every command has its capture and all is acknowledged, none waits

plain_over : (b : Bool) (s x : List ℕ) (at n : ℕ) (go : ℕ → List Command) (held stay : List Command) → (if b then n + 1 else n) ≤ 0
    → (n ≤ 0 → go (length x + at) ≡ [])
    → (if b then held else past_text s (length (if b then [] else s ++ x) + at) go stay) ≡ []
plain_over true s x at n go held stay h f = absurd (omega (arith, h))
plain_over false s x at n go held stay h f = past_reply s x at go stay ∙ f h

each_over : (b : Bool) (t x s z : List ℕ) (at l n : ℕ) (gone go : ℕ → List Command) (stay : List Command) → (if b then n + 1 else n) ≤ l + 1
    → (n ≤ l → gone (length x + at) ≡ []) → (n ≤ l + 1 → go (length z + at) ≡ [])
    → (if b then past_text t (length (if b then t ++ x else s ++ z) + at) gone stay
    else past_text s (length (if b then t ++ x else s ++ z) + at) go stay) ≡ []
each_over true t x s z at l n gone go stay h f g = past_reply t x at gone stay ∙ f (omega (arith, h))
each_over false t x s z at l n gone go stay h f g = past_reply s z at go stay ∙ g h

over : (cs : List Command) (ks : List Snapshot) (at : ℕ) → needed cs ≤ length ks → unfinished cs ks (length (transcript cs ks) + at) ≡ []
over [] ks at h = refl
over (c ∷ cs) [] at h =
    plain_over (needs_capture c) (plain_reply c) (transcript cs []) at (needed cs) (λ n. unfinished cs [] n) (c ∷ cs) (c ∷ cs) h
    (λ g. over cs [] at g)
over (c ∷ cs) (k ∷ ks) at h =
    each_over (needs_capture c) (sent_at c k) (transcript cs ks) (plain_reply c) (transcript cs (k ∷ ks)) at (length ks) (needed cs)
    (λ n. unfinished cs ks n) (λ n. unfinished cs (k ∷ ks) n) (c ∷ cs) (omega (arith, h))
    (λ g. over cs ks at g) (λ g. over cs (k ∷ ks) at (omega (arith, g)))

-- all output is sent
abbrev has_sent : AppState → Bool
has_sent p = nat_le (needed (commands_in p.input)) (length p.snapshots)

settles : (p : AppState) → p.acked ≡ length (session p) → has_sent p ≡ true → is_settled p ≡ true
settles p e h =
    ap (λ (cs : List Command). length cs == 0)
    (ap (λ (n : ℕ). unfinished (commands_in p.input) p.snapshots n) (let z : p.acked ≡ length (session p) + 0 = omega (arith, e) in z)
    ∙ over (commands_in p.input) p.snapshots 0 (leb-true (needed (commands_in p.input)) (length p.snapshots) h))

sent_of : (p : AppState) → is_settled p ≡ true → WasSentIn (commands_in p.input) p.snapshots p.acked
sent_of p e = settled (commands_in p.input) p.snapshots p.acked (none_waits (waiting p) e)

has_sent_of : (p : AppState) → is_settled p ≡ true → has_sent p ≡ true
has_sent_of p e = le-leb (needed (commands_in p.input)) (length p.snapshots) (sent_of p e).reported

-- ---- what the shell requests

ends_exactly : (p : AppState) → p.acked ≤ length (session p) → session_has_ended p ≡ (sessions.complete p.input p.snapshots && all_acknowledged p)
ends_exactly p h = same_tests (session_has_ended p) (sessions.complete p.input p.snapshots && all_acknowledged p)
    (λ e. let both = and_parts (has_quit (all_commands p.input)) (is_settled p) e in
    and_from (sessions.complete p.input p.snapshots) (all_acknowledged p)
    (and_from (has_quit (all_commands p.input)) (has_sent p) both.0 (has_sent_of p both.1))
    (let within = (sent_of p both.1).within in eq-eqb p.acked (length (session p)) (omega (arith, h, within))))
    (λ e. let both = and_parts (sessions.complete p.input p.snapshots) (all_acknowledged p) e in
    let whole = and_parts (has_quit (all_commands p.input)) (has_sent p) both.0 in
    and_from (has_quit (all_commands p.input)) (is_settled p) whole.0 (settles p (eqb-true p.acked (length (session p)) both.1) whole.1))

left_exactly : (acked size : ℕ) → nat_lt 0 (size - acked) ≡ nat_lt acked size
left_exactly acked size = same_tests (nat_lt 0 (size - acked)) (nat_lt acked size)
    (λ e. let some = ltb-true 0 (size - acked) e in lt-ltb acked size (omega (arith, some)))
    (λ e. let some = ltb-true acked size e in lt-ltb 0 (size - acked) (omega (arith, some)))

wants_exactly : (numbers : List ℕ) (p : AppState) → p.acked ≤ length (session p) → shell_spec.want numbers p ≡ exact_want p
wants_exactly numbers p h =
    ap (λ (b : Bool). if is_given_up p then Abort else if b then Close else if nat_lt 0 (left_of_session p) then Send
    (min 1460 (left_of_session p)) else Nothing)
    (ends_exactly p h)
    ∙ ap (λ (b : Bool). if is_given_up p then Abort else if sessions.complete p.input p.snapshots && all_acknowledged p then Close
    else if b then Send (min 1460 (left_of_session p)) else Nothing) (left_exactly p.acked (length (session p)))

-- ---- when a capture is taken

stops_exactly : (p : AppState) → is_stopped p ≡ capture_comes_next p
stops_exactly p = same_tests (is_stopped p) (capture_comes_next p)
    (λ e. let both = and_parts (all_acknowledged p) (not (is_settled p)) e in
    and_from (all_acknowledged p) (nat_lt (length p.snapshots) (needed (commands_in p.input))) both.0
    (missing p both.0 both.1))
    (λ e. let both = and_parts (all_acknowledged p) (nat_lt (length p.snapshots) (needed (commands_in p.input))) e in
    and_from (all_acknowledged p) (not (is_settled p)) both.0 (waits_yet p both.1))
  where
    by_less : (n m : ℕ) → (nat_le n m ≡ true → ⊥) → nat_lt m n ≡ true
    by_less n m f = elim (nat_lt m n) as (λ b. nat_lt m n ≡ b → b ≡ true) [
      | true ↦ λ e. refl
      | false ↦ λ e. absurd (f (le-leb n m (Rattle.std.proofs.lemmas.Bool.ltb-false m n e)))
    ] refl

    not_true : (b : Bool) → not b ≡ true → b ≡ true → ⊥
    not_true true e f = cc
    not_true false e f = cc

    missing : (p : AppState) → all_acknowledged p ≡ true → not (is_settled p) ≡ true → nat_lt (length p.snapshots) (needed (commands_in p.input)) ≡ true
    missing p a s =
        by_less (needed (commands_in p.input)) (length p.snapshots)
        (λ h. not_true (is_settled p) s (settles p (eqb-true p.acked (length (session p)) a) h))

    from_not : (b : Bool) → (b ≡ true → ⊥) → not b ≡ true
    from_not true f = absurd (f refl)
    from_not false f = refl

    waits_yet : (p : AppState) → nat_lt (length p.snapshots) (needed (commands_in p.input)) ≡ true → not (is_settled p) ≡ true
    waits_yet p l =
        from_not (is_settled p) (λ s. let reported = (sent_of p s).reported in let less = ltb-true (length p.snapshots)
        (needed (commands_in p.input)) l in omega (arith, reported, less))

prepares_exactly : (numbers : List ℕ) (p : AppState) (now : Now)
    → shell_spec.prepare numbers p now ≡ (if capture_comes_next p then take_capture numbers p now else p)
prepares_exactly numbers p now = ap (λ (b : Bool). if b then take_capture numbers p now else p) (stops_exactly p)

-- ---- commands that come wait

none_past : (s : List ℕ) (go : ℕ → List Command) (stay : List Command) → 1 ≤ length s → past_text s 0 go stay ≡ stay
none_past s go stay h = ap (λ (b : Bool). if b then go (0 - length s) else stay) (lt-leb (length s) 0 (omega (arith, h)))

either_waits : (b : Bool) (x y z : List Command) → x ≡ z → y ≡ z → (if b then x else y) ≡ z
either_waits true x y z e f = e
either_waits false x y z e f = f

all_wait : (ds : List Command) (ks : List Snapshot) → unfinished ds ks 0 ≡ ds
all_wait [] ks = refl
all_wait (d ∷ ds) [] =
    either_waits (needs_capture d) (d ∷ ds) (past_text (plain_reply d) 0 (λ n. unfinished ds [] n) (d ∷ ds)) (d ∷ ds) refl
    (none_past (plain_reply d) (λ n. unfinished ds [] n) (d ∷ ds) (reply_is_not_empty d _))
all_wait (d ∷ ds) (k ∷ ks) =
    either_waits (needs_capture d) (past_text (sent_at d k) 0 (λ n. unfinished ds ks n) (d ∷ ds))
    (past_text (plain_reply d) 0 (λ n. unfinished ds (k ∷ ks) n) (d ∷ ds)) (d ∷ ds)
    (none_past (sent_at d k) (λ n. unfinished ds ks n) (d ∷ ds) (reply_is_not_empty d _))
    (none_past (plain_reply d) (λ n. unfinished ds (k ∷ ks) n) (d ∷ ds) (reply_is_not_empty d _))

past_or_not : (s : List ℕ) (bytes : ℕ) (more less : ℕ → List Command) (c : Command) (cs ds : List Command)
    → (length s ≤ bytes → more (bytes - length s) ≡ less (bytes - length s) ++ ds)
    → past_text s bytes more (c ∷ (cs ++ ds)) ≡ past_text s bytes less (c ∷ cs) ++ ds
past_or_not s bytes more less c cs ds f =
    elim (nat_le (length s) bytes) as (λ b. nat_le (length s) bytes ≡ b
    → (if b then more (bytes - length s) else c ∷ (cs ++ ds)) ≡ (if b then less (bytes - length s) else c ∷ cs) ++ ds) [
      | true ↦ λ e. f (leb-true (length s) bytes e)
      | false ↦ λ e. refl
    ] refl

plain_join : (b : Bool) (s x : List ℕ) (bytes : ℕ) (more less : ℕ → List Command) (c : Command) (cs ds : List Command)
    → bytes ≤ length (if b then [] else s ++ x)
    → (length s ≤ bytes → bytes - length s ≤ length x → more (bytes - length s) ≡ less (bytes - length s) ++ ds)
    → (if b then c ∷ (cs ++ ds) else past_text s bytes more (c ∷ (cs ++ ds))) ≡ (if b then c ∷ cs else past_text s bytes less (c ∷ cs)) ++ ds
plain_join true s x bytes more less c cs ds h f = refl
plain_join false s x bytes more less c cs ds h f =
    let size = length-append s x in past_or_not s bytes more less c cs ds (λ g. f g (omega (arith, size, h, g)))

each_join : (b : Bool) (t w s x : List ℕ) (bytes : ℕ) (more less more' less' : ℕ → List Command) (c : Command) (cs ds : List Command)
    → bytes ≤ length (if b then t ++ w else s ++ x)
    → (length t ≤ bytes → bytes - length t ≤ length w → more (bytes - length t) ≡ less (bytes - length t) ++ ds)
    → (length s ≤ bytes → bytes - length s ≤ length x → more' (bytes - length s) ≡ less' (bytes - length s) ++ ds)
    → (if b then past_text t bytes more (c ∷ (cs ++ ds)) else past_text s bytes more' (c ∷ (cs ++ ds)))
    ≡ (if b then past_text t bytes less (c ∷ cs) else past_text s bytes less' (c ∷ cs)) ++ ds
each_join true t w s x bytes more less more' less' c cs ds h f g =
    let size = length-append t w in past_or_not t bytes more less c cs ds (λ k. f k (omega (arith, size, h, k)))
each_join false t w s x bytes more less more' less' c cs ds h f g =
    let size = length-append s x in past_or_not s bytes more' less' c cs ds (λ k. g k (omega (arith, size, h, k)))

unfinished_joins : (cs ds : List Command) (ks : List Snapshot) (bytes : ℕ) → bytes ≤ length (transcript cs ks)
    → unfinished (cs ++ ds) ks bytes ≡ unfinished cs ks bytes ++ ds
unfinished_joins [] ds ks bytes h = ap (λ (n : ℕ). unfinished ds ks n) (let z : bytes ≡ 0 = omega (arith, h) in z) ∙ all_wait ds ks
unfinished_joins (c ∷ cs) ds [] bytes h =
    plain_join (needs_capture c) (plain_reply c) (transcript cs []) bytes (λ n. unfinished (cs ++ ds) [] n) (λ n. unfinished cs [] n) c cs ds h
    (λ f g. unfinished_joins cs ds [] (bytes - length (plain_reply c)) g)
unfinished_joins (c ∷ cs) ds (k ∷ ks) bytes h =
    each_join (needs_capture c) (sent_at c k) (transcript cs ks) (plain_reply c) (transcript cs (k ∷ ks)) bytes
    (λ n. unfinished (cs ++ ds) ks n) (λ n. unfinished cs ks n) (λ n. unfinished (cs ++ ds) (k ∷ ks) n) (λ n. unfinished cs (k ∷ ks) n) c cs ds h
    (λ f g. unfinished_joins cs ds ks (bytes - length (sent_at c k)) g)
    (λ f g. unfinished_joins cs ds (k ∷ ks) (bytes - length (plain_reply c)) g)

-- ---- a byte brings one command at most

if_short : (b : Bool) (xs ys : List Token) → length xs ≤ 1 → length ys ≤ 1 → length (if b then xs else ys) ≤ 1
if_short true xs ys f g = f
if_short false xs ys f g = g

one_reported : (awaits : Awaits) (byte : ℕ) → length (tokens_at awaits byte) ≤ 1
one_reported Text byte = if_short (byte == 255) [] (Byte byte ∷ []) (omega arith) (omega arith)
one_reported Second byte = if_short (byte == 255) (Byte 255 ∷ []) [] (omega arith) (omega arith)
one_reported (Choice verb) byte =
    if_short (verb == 251) (Answer _ ∷ []) _ (omega arith) (if_short (verb == 253) (Answer _ ∷ []) [] (omega arith) (omega arith))

byte_brings : (ends drops : Bool) (c : Command) (x y z : List Command) (n : ℕ) → length x ≤ n → length y ≤ n → length z ≤ n
    → length (if ends then c ∷ x else if drops then y else z) ≤ n + 1
byte_brings true drops c x y z n f g h = omega (arith, f)
byte_brings false true c x y z n f g h = omega (arith, g)
byte_brings false false c x y z n f g h = omega (arith, h)

few_commands : (line : List ℕ) (ts : List Token) → length (commands line ts) ≤ length ts
few_commands line [] = omega arith
few_commands line (Answer command ∷ ts) = let rest = few_commands line ts in omega (arith, rest)
few_commands line (Byte byte ∷ ts) =
    let all = byte_brings (byte == 10) (byte == 13) (command_of line) (commands [] ts) (commands line ts) (commands (line ++ byte ∷ []) ts) (length ts)
    (few_commands [] ts) (few_commands line ts) (few_commands (line ++ byte ∷ []) ts) in omega (arith, all)

quit_cuts : (c : Command) (b : Bool) (cs : List Command) (n : ℕ) → length cs ≤ n → length (c ∷ (if b then [] else cs)) ≤ n + 1
quit_cuts c true cs n h = omega arith
quit_cuts c false cs n h = omega (arith, h)

few_count : (cs : List Command) → length (until_quit cs) ≤ length cs
few_count [] = omega arith
few_count (c ∷ cs) = let all = quit_cuts c (is_quit c) (until_quit cs) (length cs) (few_count cs) in omega (arith, all)

none_or : (b : Bool) (cs : List Command) → length cs ≤ 1 → length (if b then [] else cs) ≤ 1
none_or true cs h = omega arith
none_or false cs h = h

one_comes : (delivered : List ℕ) (byte : ℕ) → length (further delivered (byte ∷ [])) ≤ 1
one_comes delivered byte =
    let ts : List Token = tokens (awaits_after Text delivered) (byte ∷ []) in
    let short : length (tokens (awaits_after Text delivered) (byte ∷ [])) ≤ 1 =
    (let e : length (tokens (awaits_after Text delivered) (byte ∷ [])) ≡ length (tokens_at (awaits_after Text delivered) byte) =
    ap (λ (us : List Token). length us) (append-nil (tokens_at (awaits_after Text delivered) byte)) in
    let f = one_reported (awaits_after Text delivered) byte in omega (arith, e, f)) in
    let few = few_commands (line_after [] (tokens Text delivered)) (tokens (awaits_after Text delivered) (byte ∷ [])) in
    let counts = few_count (commands (line_after [] (tokens Text delivered)) (tokens (awaits_after Text delivered) (byte ∷ []))) in
    none_or (has_quit (commands [] (tokens Text delivered)))
    (until_quit (commands (line_after [] (tokens Text delivered)) (tokens (awaits_after Text delivered) (byte ∷ []))))
    (omega (arith, short, few, counts))

-- ---- when it is given up

waits_more : (p : AppState) (byte : ℕ) → p.acked ≤ length (session p) → length (waiting (with_byte p byte)) ≡ length (waiting p) + length
    (further p.input (byte ∷ []))
waits_more p byte h =
    ap (λ (cs : List Command). length (unfinished cs p.snapshots p.acked)) (commands_grow p.input (byte ∷ []))
    ∙ ap (λ (cs : List Command). length cs) (unfinished_joins (commands_in p.input) (further p.input (byte ∷ [])) p.snapshots p.acked h)
    ∙ length-append (waiting p) (further p.input (byte ∷ []))

counts_more : (p : AppState) (byte : ℕ) → length (commands_in (p.input ++ byte ∷ [])) ≡ length (commands_in p.input) + length (further p.input (byte ∷ []))
counts_more p byte =
    ap (λ (cs : List Command). length cs) (commands_grow p.input (byte ∷ [])) ∙ length-append (commands_in p.input) (further p.input (byte ∷ []))

too_many : (p : AppState) (byte : ℕ) → p.acked ≤ length (session p) → length (waiting p) ≤ 32
    → nat_lt 32 (length (waiting (with_byte p byte))) ≡ (completes p byte && (length (waiting p) == 32))
too_many p byte h room =
    let more = waits_more p byte h in
    let count = counts_more p byte in
    let one = one_comes p.input byte in
    same_tests (nat_lt 32 (length (waiting (with_byte p byte)))) (completes p byte && (length (waiting p) == 32))
    (λ e. let many = ltb-true 32 (length (waiting (with_byte p byte))) e in
    and_from (completes p byte) (length (waiting p) == 32)
    (lt-ltb (length (commands_in p.input)) (length (commands_in (p.input ++ byte ∷ []))) (omega (arith, more, count, room, many)))
    (eq-eqb (length (waiting p)) 32 (omega (arith, more, one, room, many))))
    (λ e. let both = and_parts (completes p byte) (length (waiting p) == 32) e in
    let comes = ltb-true (length (commands_in p.input)) (length (commands_in (p.input ++ byte ∷ []))) both.0 in
    let full = eqb-true (length (waiting p)) 32 both.1 in
    lt-ltb 32 (length (waiting (with_byte p byte))) (omega (arith, more, count, comes, full)))

loses_exactly : (p : AppState) (byte : ℕ) → p.acked ≤ length (session p) → length (waiting p) ≤ 32
    → receive_byte p byte
    ≡ (if p.own == 1 then p else if completes p byte && (length (waiting p) == 32) then record p { own = 1 } else with_byte p byte)
loses_exactly p byte h room =
    ap (λ (b : Bool). if p.own == 1 then p else if b then record p { own = 1 } else with_byte p byte) (too_many p byte h room)

room_by : (p : AppState) (byte : ℕ) (lost full : Bool) → length (waiting p) ≤ 32 → nat_lt 32 (length (waiting (with_byte p byte))) ≡ full
    → length (waiting (if lost then p else if full then record p { own = 1 } else with_byte p byte)) ≤ 32
room_by p byte true full h e = h
room_by p byte false true h e = h
room_by p byte false false h e = Rattle.std.proofs.lemmas.Bool.ltb-false 32 (length (waiting (with_byte p byte))) e

-- ---- a long line

unlike : (line word : List ℕ) → length word < length line → bytes_eq line word ≡ false
unlike line word h = false_from_ne_true (bytes_eq line word) (λ e.
    let same = ap (λ (l : List ℕ). length l) ((bytes_eq-Decides line word).0 e) in omega (arith, h, same))

no_word : (a b c d e f : Bool) → a ≡ false → b ≡ false → c ≡ false → d ≡ false → e ≡ false → f ≡ false
    → (if a then Blank else if b then Help else if c then Stats else if d then Conns else if e then Ticks else if f then Quit else Other) ≡ Other
no_word false false false false false false p q r s t u = refl
no_word true b c d e f p q r s t u = absurd cc
no_word false true c d e f p q r s t u = absurd cc
no_word false false true d e f p q r s t u = absurd cc
no_word false false false true e f p q r s t u = absurd cc
no_word false false false false true f p q r s t u = absurd cc
no_word false false false false false true p q r s t u = absurd cc

long_is_other : (line : List ℕ) → 16 < length line → command_of line ≡ Other
long_is_other line h =
    no_word (bytes_eq line []) (bytes_eq line (codes "help")) (bytes_eq line (codes "stats")) (bytes_eq line (codes "conns"))
    (bytes_eq line (codes "ticks")) (bytes_eq line (codes "quit"))
    (unlike line [] (omega (arith, h))) (unlike line (codes "help") (omega (arith, h))) (unlike line (codes "stats") (omega (arith, h)))
    (unlike line (codes "conns") (omega (arith, h))) (unlike line (codes "ticks") (omega (arith, h))) (unlike line (codes "quit") (omega (arith, h)))

pub is_exact : IsExact
is_exact = record {
  wants = wants_exactly;
  prepares = prepares_exactly;
  loses = loses_exactly;
  has_room = λ p byte h. room_by p byte (p.own == 1) (nat_lt 32 (length (waiting (with_byte p byte)))) h refl;
  long_line = long_is_other;
}
