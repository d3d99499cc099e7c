-- More bytes only append commands, and more commands and captures only append to the transcript.
use Rattle.std.proofs.Common.{◌≡◌, ℕ, Bool, true, false, List, [], ◌∷◌, ◌++◌, ◌==◌, if◌then◌else◌, refl, sym, ap, ◌∙◌, append_assoc}
use Rattle.app_events.specs.Prelude.{Snapshot, IsPrefixOf}
use Rattle.telnet_shell.specs.declared.command.Command.{Command}
use Rattle.telnet_shell.specs.Reading.{Awaits, Token, tokens, tokens_at, next_awaits, awaits_after, commands}
use Rattle.telnet_shell.specs.Reading.{command_of, line_after, is_quit, until_quit, has_quit, commands_in}
use Rattle.telnet_shell.specs.Reading.Awaits.{Text}
use Rattle.telnet_shell.specs.Reading.Token.{Byte, Answer}
use Rattle.telnet_shell.specs.Transcript.{transcript, needs_capture, plain_reply, sent_at}

pub tokens_joined : (awaits : Awaits) (xs ys : List ℕ) → tokens awaits (xs ++ ys) ≡ tokens awaits xs ++ tokens (awaits_after awaits xs) ys
tokens_joined awaits [] ys = refl
tokens_joined awaits (x ∷ xs) ys =
    ap (λ (ts : List Token). tokens_at awaits x ++ ts) (tokens_joined (next_awaits awaits x) xs ys)
    ∙ sym (append_assoc (tokens_at awaits x) (tokens (next_awaits awaits x) xs) (tokens (awaits_after (next_awaits awaits x) xs) ys))

-- a byte of the text to which the rest is joined, whatever the line is
byte_joined : (line : List ℕ) (byte : ℕ) (ts us : List Token) (ends drops : Bool)
    → ((l : List ℕ) → commands l (ts ++ us) ≡ commands l ts ++ commands (line_after l ts) us)
    → (if ends then command_of line ∷ commands [] (ts ++ us)
    else if drops then commands line (ts ++ us)
    else commands (line ++ byte ∷ []) (ts ++ us))
    ≡ (if ends then command_of line ∷ commands [] ts else if drops then commands line ts else commands (line ++ byte ∷ []) ts)
    ++ commands (if ends then line_after [] ts else if drops then line_after line ts else line_after (line ++ byte ∷ []) ts) us
byte_joined line byte ts us true drops rest = ap (λ (cs : List Command). command_of line ∷ cs) (rest [])
byte_joined line byte ts us false true rest = rest line
byte_joined line byte ts us false false rest = rest (line ++ byte ∷ [])

pub commands_joined : (line : List ℕ) (ts us : List Token) → commands line (ts ++ us) ≡ commands line ts ++ commands (line_after line ts) us
commands_joined line [] us = refl
commands_joined line (Answer command ∷ ts) us = ap (λ (cs : List Command). command ∷ cs) (commands_joined line ts us)
commands_joined line (Byte byte ∷ ts) us = byte_joined line byte ts us (byte == 10) (byte == 13) (λ l. commands_joined l ts us)

quit_joined : (c : Command) (cs ds : List Command) (quits : Bool)
    → until_quit (cs ++ ds) ≡ until_quit cs ++ (if has_quit cs then [] else until_quit ds)
    → c ∷ (if quits then [] else until_quit (cs ++ ds))
    ≡ (c ∷ (if quits then [] else until_quit cs)) ++ (if (if quits then true else has_quit cs) then [] else until_quit ds)
quit_joined c cs ds true rest = refl
quit_joined c cs ds false rest = ap (λ (es : List Command). c ∷ es) rest

pub until_quit_joined : (cs ds : List Command) → until_quit (cs ++ ds) ≡ until_quit cs ++ (if has_quit cs then [] else until_quit ds)
until_quit_joined [] ds = refl
until_quit_joined (c ∷ cs) ds = quit_joined c cs ds (is_quit c) (until_quit_joined cs ds)

-- the commands that further bytes bring
abbrev pub further : List ℕ → List ℕ → List Command
further delivered more =
    if has_quit (commands [] (tokens Text delivered)) then []
    else until_quit (commands (line_after [] (tokens Text delivered)) (tokens (awaits_after Text delivered) more))

pub commands_grow : (delivered more : List ℕ) → commands_in (delivered ++ more) ≡ commands_in delivered ++ further delivered more
commands_grow delivered more =
    ap (λ (ts : List Token). until_quit (commands [] ts)) (tokens_joined Text delivered more)
    ∙ ap (λ (cs : List Command). until_quit cs) (commands_joined [] (tokens Text delivered) (tokens (awaits_after Text delivered) more))
    ∙ until_quit_joined (commands [] (tokens Text delivered))
    (commands (line_after [] (tokens Text delivered)) (tokens (awaits_after Text delivered) more))

-- ---- the transcript

after_prefix : (prefix xs ys : List ℕ) → IsPrefixOf xs ys → IsPrefixOf (prefix ++ xs) (prefix ++ ys)
after_prefix prefix xs ys p = record { rest = p.rest; joined = append_assoc prefix xs p.rest ∙ ap (λ (zs : List ℕ). prefix ++ zs) p.joined }

none_left : (b : Bool) (output xs ys : List ℕ) → IsPrefixOf xs ys
    → IsPrefixOf (if b then [] else output ++ xs) (if b then [] else output ++ ys)
none_left true output xs ys p = record { rest = []; joined = refl }
none_left false output xs ys p = after_prefix output xs ys p

one_more : (b : Bool) (output other xs ys zs : List ℕ) → IsPrefixOf xs ys
    → IsPrefixOf (if b then [] else output ++ xs) (if b then other ++ zs else output ++ ys)
one_more true output other xs ys zs p = record { rest = other ++ zs; joined = refl }
one_more false output other xs ys zs p = after_prefix output xs ys p

one_each : (b : Bool) (other output ws zs xs ys : List ℕ) → IsPrefixOf ws zs → IsPrefixOf xs ys
    → IsPrefixOf (if b then other ++ ws else output ++ xs) (if b then other ++ zs else output ++ ys)
one_each true other output ws zs xs ys p q = after_prefix other ws zs p
one_each false other output ws zs xs ys p q = after_prefix output xs ys q

pub transcript_grows : (cs ds : List Command) (ks ls : List Snapshot) → IsPrefixOf (transcript cs ks) (transcript (cs ++ ds) (ks ++ ls))
transcript_grows [] ds ks ls = record { rest = transcript ds (ks ++ ls); joined = refl }
transcript_grows (c ∷ cs) ds [] [] =
    none_left (needs_capture c) (plain_reply c) (transcript cs []) (transcript (cs ++ ds) []) (transcript_grows cs ds [] [])
transcript_grows (c ∷ cs) ds [] (l ∷ ls) =
    one_more (needs_capture c) (plain_reply c) (sent_at c l) (transcript cs []) (transcript (cs ++ ds) (l ∷ ls)) (transcript (cs ++ ds) ls)
    (transcript_grows cs ds [] (l ∷ ls))
transcript_grows (c ∷ cs) ds (k ∷ ks) ls =
    one_each (needs_capture c) (sent_at c k) (plain_reply c) (transcript cs ks) (transcript (cs ++ ds) (ks ++ ls)) (transcript cs (k ∷ ks))
    (transcript (cs ++ ds) (k ∷ (ks ++ ls)))
    (transcript_grows cs ds ks ls) (transcript_grows cs ds (k ∷ ks) ls)
