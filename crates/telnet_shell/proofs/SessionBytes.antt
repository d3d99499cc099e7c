-- The shell sends bytes if it receives bytes.
use Rattle.telnet_shell.proofs.Prelude.{All, codes, bytes_eq, ℕ, ◌==◌, List, [], ◌∷◌, ◌++◌, refl, sym, subst, lit<, All-append, All-cons}
use Rattle.telnet_shell.proofs.Prelude.{All-head, All-nil, All-tail, capture_of, capture_text, Capture, Empty, capture_bytes, either_bytes}
use Rattle.telnet_shell.proofs.Prelude.{literal_bytes, IsByte, AppState, Snapshot, choose, SendsBytes, IAC, WILL, DO, Command, Refuse, Help}
use Rattle.telnet_shell.proofs.Prelude.{Stats, Conns, Ticks, Quit, Blank, Other, Awaits, Token, all_commands, command_of, commands}
use Rattle.telnet_shell.proofs.Prelude.{commands_in, is_quit, next_awaits, tokens_at, tokens, until_quit, Text, Second, Choice, Byte}
use Rattle.telnet_shell.proofs.Prelude.{Answer, is_stopped, shell_spec, take_capture, DeliversPrefix, function_of, needs_capture, sent_at}
use Rattle.telnet_shell.proofs.Prelude.{plain_reply, reply_with, transcript}
use Rattle.telnet_shell.proofs.SessionLaws.{keeps_session}

-- ---- what is received: an offer is refused with bytes

abbrev IsOfBytes : Command → Type 0
IsOfBytes (Refuse verb option) = IsByte verb × IsByte option
IsOfBytes Help = Unit {0}
IsOfBytes Stats = Unit {0}
IsOfBytes Conns = Unit {0}
IsOfBytes Ticks = Unit {0}
IsOfBytes Quit = Unit {0}
IsOfBytes Blank = Unit {0}
IsOfBytes Other = Unit {0}

abbrev AreOfBytes : List Command → Type 0
AreOfBytes [] = Unit {0}
AreOfBytes (command ∷ more) = IsOfBytes command × AreOfBytes more

abbrev AreTokens : List Token → Type 0
AreTokens [] = Unit {0}
AreTokens (Byte byte ∷ more) = AreTokens more
AreTokens (Answer command ∷ more) = IsOfBytes command × AreTokens more

tokens_append : (ts us : List Token) → AreTokens ts → AreTokens us → AreTokens (ts ++ us)
tokens_append [] us h g = g
tokens_append (Byte byte ∷ ts) us h g = tokens_append ts us h g
tokens_append (Answer command ∷ ts) us h g = (h.0, tokens_append ts us h.1 g)

reported_bytes : (awaits : Awaits) (byte : ℕ) → IsByte byte → AreTokens (tokens_at awaits byte)
reported_bytes Text byte h = choose AreTokens (byte == IAC) _ _ (λ e. tt) (λ e. tt)
reported_bytes Second byte h = choose AreTokens (byte == IAC) _ _ (λ e. tt) (λ e. tt)
reported_bytes (Choice verb) byte h =
    choose AreTokens (verb == WILL) _ _ (λ e. ((lit< tt, h), tt)) (λ e. choose AreTokens (verb == DO) _ _ (λ f. ((lit< tt, h), tt)) (λ f. tt))

tokens_bytes : (awaits : Awaits) (delivered : List ℕ) → All IsByte delivered → AreTokens (tokens awaits delivered)
tokens_bytes awaits [] h = tt
tokens_bytes awaits (byte ∷ more) h =
    tokens_append (tokens_at awaits byte) (tokens (next_awaits awaits byte) more) (reported_bytes awaits byte (All-head IsByte byte more h))
    (tokens_bytes (next_awaits awaits byte) more (All-tail IsByte byte more h))

line_bytes : (line : List ℕ) → IsOfBytes (command_of line)
line_bytes line =
    choose IsOfBytes (bytes_eq line []) _ _ (λ e. tt)
    (λ e. choose IsOfBytes (bytes_eq line (codes "help")) _ _ (λ e. tt)
    (λ e. choose IsOfBytes (bytes_eq line (codes "stats")) _ _ (λ e. tt)
    (λ e. choose IsOfBytes (bytes_eq line (codes "conns")) _ _ (λ e. tt)
    (λ e. choose IsOfBytes (bytes_eq line (codes "ticks")) _ _ (λ e. tt)
    (λ e. choose IsOfBytes (bytes_eq line (codes "quit")) _ _ (λ e. tt) (λ e. tt))))))

commands_bytes : (line : List ℕ) (ts : List Token) → AreTokens ts → AreOfBytes (commands line ts)
commands_bytes line [] h = tt
commands_bytes line (Answer command ∷ ts) h = (h.0, commands_bytes line ts h.1)
commands_bytes line (Byte byte ∷ ts) h =
    choose AreOfBytes (byte == 10) _ _ (λ e. (line_bytes line, commands_bytes [] ts h))
    (λ e. choose AreOfBytes (byte == 13) _ _ (λ f. commands_bytes line ts h) (λ f. commands_bytes (line ++ byte ∷ []) ts h))

until_bytes : (cs : List Command) → AreOfBytes cs → AreOfBytes (until_quit cs)
until_bytes [] h = tt
until_bytes (c ∷ cs) h = (h.0, choose AreOfBytes (is_quit c) _ _ (λ e. tt) (λ e. until_bytes cs h.1))

-- ---- what is sent

text_of : (capture : Capture) (end : List ℕ) → All IsByte end → All IsByte (capture_text capture ++ end)
text_of capture end h = All-append IsByte (capture_text capture) end (capture_bytes capture) h

sent_text_bytes : (c : Command) (capture : Capture) → IsOfBytes c → All IsByte (reply_with c capture)
sent_text_bytes (Refuse verb option) capture h =
    All-cons IsByte IAC (verb ∷ option ∷ []) (lit< tt) (All-cons IsByte verb (option ∷ []) h.0 (All-cons IsByte option [] h.1 (All-nil IsByte)))
sent_text_bytes Help capture h = literal_bytes (codes "help stats conns ticks quit\r\n> ") refl
sent_text_bytes Stats capture h = text_of capture (codes "> ") (literal_bytes (codes "> ") refl)
sent_text_bytes Conns capture h = text_of capture (codes "> ") (literal_bytes (codes "> ") refl)
sent_text_bytes Ticks capture h = text_of capture (codes "\r\n> ") (literal_bytes (codes "\r\n> ") refl)
sent_text_bytes Quit capture h = literal_bytes (codes "bye\r\n") refl
sent_text_bytes Blank capture h = literal_bytes (codes "> ") refl
sent_text_bytes Other capture h = literal_bytes (codes "?\r\n> ") refl

transcript_bytes : (cs : List Command) (ks : List Snapshot) → AreOfBytes cs → All IsByte (transcript cs ks)
transcript_bytes [] ks h = All-nil IsByte
transcript_bytes (c ∷ cs) [] h =
    either_bytes (needs_capture c) [] (plain_reply c ++ transcript cs []) (All-nil IsByte)
    (All-append IsByte (plain_reply c) (transcript cs []) (sent_text_bytes c Empty h.0) (transcript_bytes cs [] h.1))
transcript_bytes (c ∷ cs) (k ∷ ks) h =
    either_bytes (needs_capture c) (sent_at c k ++ transcript cs ks) (plain_reply c ++ transcript cs (k ∷ ks))
    (All-append IsByte (sent_at c k) (transcript cs ks) (sent_text_bytes c (capture_of (function_of c) 0 k.now) h.0) (transcript_bytes cs ks h.1))
    (All-append IsByte (plain_reply c) (transcript cs (k ∷ ks)) (sent_text_bytes c Empty h.0) (transcript_bytes cs (k ∷ ks) h.1))

prefix_bytes : (prefix rest : List ℕ) → All IsByte (prefix ++ rest) → All IsByte prefix
prefix_bytes [] rest h = All-nil IsByte
prefix_bytes (x ∷ prefix) rest h =
    All-cons IsByte x prefix (All-head IsByte x (prefix ++ rest) h) (prefix_bytes prefix rest (All-tail IsByte x (prefix ++ rest) h))

received_bytes : (p q : AppState) (piece : List ℕ) → DeliversPrefix p q piece → All IsByte p.input → All IsByte piece → All IsByte q.input
received_bytes p q piece f h are =
    subst (λ (l : List ℕ). All IsByte l) (sym f.input)
    (All-append IsByte p.input f.prefix h (prefix_bytes f.prefix f.rest (subst (λ (l : List ℕ). All IsByte l) (sym f.joined) are)))

pub shell_bytes : SendsBytes shell_spec
shell_bytes = record {
  output = λ p h k. transcript_bytes (commands_in p.input) p.snapshots
      (until_bytes (all_commands p.input) (commands_bytes [] (tokens Text p.input) (tokens_bytes Text p.input h)));
  connected = λ numbers port. All-nil IsByte;
  newdata = λ numbers p piece h are. received_bytes p (shell_spec.newdata numbers p piece).part piece (keeps_session.delivers_text numbers p piece) h are;
  prepare = λ numbers p now h. choose (λ (q : AppState). All IsByte q.input) (is_stopped p) (take_capture numbers p now) p (λ e. h) (λ e. h);
  acked = λ numbers p n h. h;
  polled = λ numbers p h. h;
}
