-- How long a session is: each byte received completes one command at most, and no command has more than 1032 bytes of text.
use Rattle.desk_laws.proofs.Prelude.{All, codes, Bool, true, false, ℕ, ◌+◌, ◌*◌, ◌==◌, ◌≤◌, List, [], ◌∷◌, ◌++◌, length, arith}
use Rattle.desk_laws.proofs.Prelude.{if◌then◌else◌, length-append, lit<, lit≤, All-head, All-tail, IsSnapshot, Snapshot, length_at_most}
use Rattle.desk_laws.proofs.Prelude.{capture_of, capture_text, Capture, Empty, texts_short, choose, Command, Refuse, Help, Stats, Conns}
use Rattle.desk_laws.proofs.Prelude.{Ticks, Quit, Blank, Other, Awaits, Token, all_commands, commands, commands_in, is_quit, next_awaits}
use Rattle.desk_laws.proofs.Prelude.{tokens, until_quit, Text, Second, Choice, Byte, Answer, function_of, needs_capture, plain_reply}
use Rattle.desk_laws.proofs.Prelude.{reply_with, transcript, SessionsAreShort}

-- ---- a byte brings one command at most

one_more : (ts us : List Token) (byte : ℕ) (more : List ℕ) → length ts ≤ 1 → length us ≤ length more → length (ts ++ us) ≤ length (byte ∷ more)
one_more ts us byte more h g = omega (arith, length-append ts us, h, g)

-- of two lists, each of one token at most
either_one : (b : Bool) (ts us : List Token) → length ts ≤ 1 → length us ≤ 1 → length (if b then ts else us) ≤ 1
either_one true ts us h g = h
either_one false ts us h g = g

few_tokens : (awaits : Awaits) (delivered : List ℕ) → length (tokens awaits delivered) ≤ length delivered
few_tokens awaits [] = lit≤ tt
few_tokens Text (byte ∷ more) =
    one_more (if byte == 255 then [] else Byte byte ∷ []) (tokens (next_awaits Text byte) more) byte more
    (either_one (byte == 255) [] (Byte byte ∷ []) (lit≤ tt) (lit≤ tt)) (few_tokens (next_awaits Text byte) more)
few_tokens Second (byte ∷ more) =
    one_more (if byte == 255 then Byte 255 ∷ [] else []) (tokens (next_awaits Second byte) more) byte more
    (either_one (byte == 255) (Byte 255 ∷ []) [] (lit≤ tt) (lit≤ tt)) (few_tokens (next_awaits Second byte) more)
few_tokens (Choice verb) (byte ∷ more) =
    let dont : List Token = Answer (Refuse 254 byte) ∷ [] in
    let wont : List Token = Answer (Refuse 252 byte) ∷ [] in
    one_more (if verb == 251 then dont else if verb == 253 then wont else []) (tokens Text more) byte more
    (either_one (verb == 251) dont (if verb == 253 then wont else []) (lit≤ tt) (either_one (verb == 253) wont [] (lit≤ tt) (lit≤ tt))) (few_tokens Text more)

few_commands : (line : List ℕ) (ts : List Token) → length (commands line ts) ≤ length ts
few_commands line [] = lit≤ tt
few_commands line (Answer command ∷ ts) = (let h = few_commands line ts in omega (arith, h))
few_commands line (Byte byte ∷ ts) =
    choose (λ (cs : List Command). length cs ≤ length (Byte byte ∷ ts)) (byte == 10) _ _
    (λ e. let h = few_commands [] ts in omega (arith, h))
    (λ e. choose (λ (cs : List Command). length cs ≤ length (Byte byte ∷ ts)) (byte == 13) _ _
    (λ f. let h = few_commands line ts in omega (arith, h))
    (λ f. let h = few_commands (line ++ byte ∷ []) ts in omega (arith, h)))

few_until : (cs : List Command) → length (until_quit cs) ≤ length cs
few_until [] = lit≤ tt
few_until (c ∷ cs) =
    let h = few_until cs in
    choose (λ (ds : List Command). length (c ∷ ds) ≤ length (c ∷ cs)) (is_quit c) [] (until_quit cs) (λ e. omega arith) (λ e. omega (arith, h))

few_in : (delivered : List ℕ) → length (commands_in delivered) ≤ length delivered
few_in delivered =
    let a = few_until (all_commands delivered) in
    let b = few_commands [] (tokens Text delivered) in
    let d = few_tokens Text delivered in
    omega (arith, a, b, d)

-- ---- the text of a command

-- a capture's text and an end
with_end : (capture : Capture) (end : List ℕ) (most : ℕ) → length (capture_text capture) ≤ most → length (capture_text capture ++ end) ≤ most + length end
with_end capture end most h = omega (arith, length-append (capture_text capture) end, h)

sent_text_short : (c : Command) (capture : Capture) → length (capture_text capture) ≤ length_at_most (function_of c) → length (reply_with c capture) ≤ 1032
sent_text_short (Refuse verb option) capture h = lit≤ tt
sent_text_short Help capture h = lit≤ tt
sent_text_short Stats capture h = (let t = with_end capture (codes "> ") 220 h in omega (arith, t))
sent_text_short Conns capture h = with_end capture (codes "> ") 1030 h
sent_text_short Ticks capture h = (let t = with_end capture (codes "\r\n> ") 10 h in omega (arith, t))
sent_text_short Quit capture h = lit≤ tt
sent_text_short Blank capture h = lit≤ tt
sent_text_short Other capture h = lit≤ tt

plainly_short : (c : Command) → length (plain_reply c) ≤ 1032
plainly_short c = sent_text_short c Empty (omega arith)

-- its text in a snapshot
abbrev text_at : Command → Snapshot → List ℕ
text_at c k = reply_with c (capture_of (function_of c) 0 k.now)

at_short : (c : Command) (k : Snapshot) → IsSnapshot k → length (text_at c k) ≤ 1032
at_short c k is = sent_text_short c (capture_of (function_of c) 0 k.now) (texts_short (function_of c) 0 k.now (lit< tt) is.now)

-- ---- the talk

transcript_short : (cs : List Command) (ks : List Snapshot) → All IsSnapshot ks → length (transcript cs ks) ≤ 1032 * length cs
transcript_short [] ks all = lit≤ tt
transcript_short (c ∷ cs) [] all =
    let most : List ℕ → Type 0 = λ xs. length xs ≤ 1032 * length (c ∷ cs) in
    let h = transcript_short cs [] all in
    choose most (needs_capture c) [] (plain_reply c ++ transcript cs []) (λ e. omega arith)
    (λ e. omega (arith, length-append (plain_reply c) (transcript cs []), plainly_short c, h))
transcript_short (c ∷ cs) (k ∷ ks) all =
    let most : List ℕ → Type 0 = λ xs. length xs ≤ 1032 * length (c ∷ cs) in
    choose most (needs_capture c) (text_at c k ++ transcript cs ks) (plain_reply c ++ transcript cs (k ∷ ks))
    (λ e. let h = transcript_short cs ks (All-tail IsSnapshot k ks all) in
    omega (arith, length-append (text_at c k) (transcript cs ks), at_short c k (All-head IsSnapshot k ks all), h))
    (λ e. let h = transcript_short cs (k ∷ ks) all in
    omega (arith, length-append (plain_reply c) (transcript cs (k ∷ ks)), plainly_short c, h))

pub sessions_short : SessionsAreShort
sessions_short delivered captures all =
    let h = transcript_short (commands_in delivered) captures all in
    omega (arith, h, few_in delivered)
